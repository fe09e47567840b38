-- `reading_calls::answer` meets its contract.
use Rattle.reading_calls.proofs.ReadingLaws.{caller-refused, caller-answered}
use Rattle.reading_calls.proofs.answer.Goals as goal

pub returns-then-caller-gt-LAST_CALLER : goal.returns-then-caller-gt-LAST_CALLER
returns-then-caller-gt-LAST_CALLER c = caller-refused _ _ _ c.if-caller-gt-LAST_CALLER.true c.from.ensures

pub returns : goal.returns
returns c =
    caller-answered _ _ _ c.if-caller-gt-LAST_CALLER.false c.by_class.ensures
