-- `reading_calls::answer_in` meets its contract.
use Rattle.arrays.proofs.SizedLaws.{room-to-mark}
use borrow.Author.Rules.{rules}
use Rattle.reading_calls.proofs.answer_in.Goals as goal

pub answer_lent-requires : goal.answer_lent-requires
answer_lent-requires g c = room-to-mark c.requires.few (search rules)
