-- `rewriting_calls::answer` meets its contract.
use Rattle.rewriting_calls.proofs.AnsweredLaws.{caller-refused, caller-answered}
use Rattle.rewriting_calls.proofs.answer.Goals as goal

pub returns-then-caller-gt-LAST_CALLER : goal.returns-then-caller-gt-LAST_CALLER
returns-then-caller-gt-LAST_CALLER c =
    caller-refused c.if-caller-gt-LAST_CALLER.true c.refused.ensures

pub returns : goal.returns
returns c =
    caller-answered c.if-caller-gt-LAST_CALLER.false c.by_class.ensures
