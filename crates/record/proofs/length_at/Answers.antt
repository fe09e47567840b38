-- `record::length_at` meets its contract.
use native.Mathlib.Omega.{arith}
use mathlib.Core.Path.{◌∙◌}
use Rattle.record.proofs.Fields.{length-part-inside, length-read}
use borrow.Author.Rules.{rules}
use Rattle.record.proofs.length_at.Goals as goal

pub returns : goal.returns
returns c =
    (c.word_at.ensures ∙ length-read _ _ c.requires.headed.is _ c.edges_at.ensures, search rules)
