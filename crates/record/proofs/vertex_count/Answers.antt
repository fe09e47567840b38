-- `record::vertex_count` meets its contract.
use native.Mathlib.Omega.{arith}
use mathlib.Core.Path.{◌∙◌}
use Rattle.record.proofs.Fields.{words_inside, vertices-read}
use borrow.Author.Rules.{rules}
use Rattle.record.proofs.vertex_count.Goals as goal

pub word_at-requires : goal.word_at-requires
word_at-requires c = omega (arith, words_inside c.requires)

pub returns : goal.returns
returns c = (c.word_at.ensures ∙ vertices-read _ _ c.requires.is, search rules)
