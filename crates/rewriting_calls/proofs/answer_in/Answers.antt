-- `rewriting_calls::answer_in` meets its contract.
use Rattle.arrays.proofs.SizedLaws.{class-lent}
use borrow.Author.Rules.{rules}
use Rattle.rewriting_calls.proofs.answer_in.Goals as goal

pub answer_lent-requires : goal.answer_lent-requires
answer_lent-requires g c = class-lent c.requires.0 (search rules)
