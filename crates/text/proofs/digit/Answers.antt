-- `text::digit` meets its contract.
use Rattle.text.proofs.TextLaws.{digit_low, digit-high}
use Rattle.text.proofs.digit.Goals as goal

pub returns-then-d-lt10 : goal.returns-then-d-lt10
returns-then-d-lt10 c = digit_low c.if-d-lt10.true

pub returns-else-d-lt10 : goal.returns-else-d-lt10
returns-else-d-lt10 c = digit-high c.if-d-lt10.false
