-- `record::edge_to_at` meets its contract.
use native.Mathlib.Omega.{arith}
use mathlib.Core.Path.{◌∙◌}
use Rattle.record.proofs.Fields.{edge-parts-inside, to_read}
use borrow.Author.Rules.{rules}
use Rattle.record.proofs.edge_to_at.Goals as goal

pub overflow_add-edge_start : goal.overflow_add-edge_start
overflow_add-edge_start c =
    omega
    (arith, edge-parts-inside c.args.i c.requires, c.edge_start.ensures, c.word_size.ensures)

pub word_at-requires : goal.word_at-requires
word_at-requires c =
    omega
    (arith, edge-parts-inside c.args.i c.requires, c.edge_start.ensures, c.word_size.ensures)

pub returns : goal.returns
returns c =
    c.word_at.ensures ∙ to_read _ _ c.requires.headed.is c.args.i c.edge_start.ensures
    c.word_size.ensures
