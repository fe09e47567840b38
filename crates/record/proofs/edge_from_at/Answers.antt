-- `record::edge_from_at` meets its contract.
use native.Mathlib.Omega.{arith}
use mathlib.Core.Path.{◌∙◌}
use Rattle.record.proofs.Fields.{edge-parts-inside, from-read}
use borrow.Author.Rules.{rules}
use Rattle.record.proofs.edge_from_at.Goals as goal

pub word_at-requires : goal.word_at-requires
word_at-requires c = omega (arith, edge-parts-inside c.args.i c.requires, c.edge_start.ensures)

pub returns : goal.returns
returns c =
    c.word_at.ensures ∙ from-read _ _ c.requires.headed.is c.args.i c.edge_start.ensures
