-- `calls::cleanup_answer` meets its contract.
use Rattle.calls.proofs.AnswerLaws.{cleanup-refused-is, cleanup-answered-is}
use Rattle.calls.proofs.cleanup_answer.Goals as goal

pub returns-then-number-ne0 : goal.returns-then-number-ne0
returns-then-number-ne0 c = cleanup-refused-is _ _ c.if-number-ne0.true _

pub returns : goal.returns
returns c = cleanup-answered-is _ _ c.if-number-ne0.false _
