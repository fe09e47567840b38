-- `record::edge_count` meets its contract.
use native.Mathlib.Omega.{arith}
use mathlib.Core.Path.{◌∙◌}
use Rattle.record.proofs.Fields.{words_inside, edges-read}
use borrow.Author.Rules.{rules}
use Rattle.record.proofs.edge_count.Goals as goal

pub overflow_add-word_size : goal.overflow_add-word_size
overflow_add-word_size c = omega (arith, words_inside c.requires, c.word_size.ensures)

pub word_at-requires : goal.word_at-requires
word_at-requires c = omega (arith, words_inside c.requires, c.word_size.ensures)

pub returns : goal.returns
returns c = (c.word_at.ensures ∙ edges-read _ _ c.requires.is c.word_size.ensures, search rules)
