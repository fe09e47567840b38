-- `record::edge_flag_at` meets its contract.
use native.Mathlib.Omega.{arith}
use mathlib.Core.Path.{◌∙◌}
use Rattle.record.proofs.Fields.{edge-parts-inside, flag-read}
use borrow.Author.Rules.{rules}
use Rattle.record.proofs.edge_flag_at.Goals as goal

pub overflow_mul-word_size : goal.overflow_mul-word_size
overflow_mul-word_size c =
    omega
    (arith, edge-parts-inside c.args.i c.requires, c.edge_start.ensures, c.word_size.ensures)

pub overflow_add-edge_start : goal.overflow_add-edge_start
overflow_add-edge_start c =
    omega
    (arith, edge-parts-inside c.args.i c.requires, c.edge_start.ensures, c.word_size.ensures)

pub overflow_add-edge_start-2 : goal.overflow_add-edge_start-2
overflow_add-edge_start-2 c =
    omega
    (arith, edge-parts-inside c.args.i c.requires, c.edge_start.ensures, c.word_size.ensures)

pub bounds-rec-edge_start : goal.bounds-rec-edge_start
bounds-rec-edge_start c =
    omega (
      arith,
      edge-parts-inside c.args.i c.requires,
      c.edge_start.ensures,
      c.word_size.ensures,
    )

pub returns : goal.returns
returns c =
    c.from.ensures ∙ flag-read _ _ c.requires.headed.is c.args.i c.edge_start.ensures
    c.word_size.ensures
