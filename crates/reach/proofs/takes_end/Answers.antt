-- `reach::takes_end` meets its contract.
use Rattle.reach.specs.Reach.{takes_end}
use Rattle.reach.proofs.takes_end.Goals as goal

pub returns-in-Along : goal.returns-in-Along
unfolding takes_end
returns-in-Along c = rw c.in-Along.is

pub returns-in-Against : goal.returns-in-Against
unfolding takes_end
returns-in-Against c = rw c.in-Against.is

pub returns-in-Either : goal.returns-in-Either
unfolding takes_end
returns-in-Either c = rw c.in-Either.is
