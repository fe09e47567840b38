-- `calls::simplify_answer` meets its contract.
use Rattle.calls.proofs.AnswerLaws.{simplify-refused-is, simplify-answered-is}
use Rattle.calls.proofs.simplify_answer.Goals as goal

pub returns-then-number-ne0 : goal.returns-then-number-ne0
returns-then-number-ne0 c = simplify-refused-is _ _ c.if-number-ne0.true _ _

pub returns : goal.returns
returns c = simplify-answered-is _ _ c.if-number-ne0.false _ _
