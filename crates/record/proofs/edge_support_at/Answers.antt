-- `record::edge_support_at` meets its contract.
use native.Mathlib.Omega.{arith}
use mathlib.Core.Path.{◌∙◌}
use Rattle.record.proofs.Fields.{edge-parts-inside, support-read}
use borrow.Author.Rules.{rules}
use Rattle.record.proofs.edge_support_at.Goals as goal

pub overflow_mul-word_size : goal.overflow_mul-word_size
overflow_mul-word_size c =
    omega
    (arith, edge-parts-inside c.args.i c.requires, c.edge_start.ensures, c.word_size.ensures)

pub overflow_add-edge_start : goal.overflow_add-edge_start
overflow_add-edge_start c =
    omega
    (arith, edge-parts-inside c.args.i c.requires, c.edge_start.ensures, c.word_size.ensures)

pub u32_at-requires : goal.u32_at-requires
u32_at-requires c =
    omega
    (arith, edge-parts-inside c.args.i c.requires, c.edge_start.ensures, c.word_size.ensures)

pub returns : goal.returns
returns c =
    c.u32_at.ensures ∙ support-read _ _ c.requires.headed.is c.args.i c.edge_start.ensures
    c.word_size.ensures
