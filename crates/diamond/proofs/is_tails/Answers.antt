-- `diamond::is_tails` meets its contract.
use native.Mathlib.Omega.{arith}
use borrow.Author.Tests.{lt-leb}
use Rattle.diamond.proofs.TestLaws.{tails-few, tails-is}
use Rattle.diamond.proofs.is_tails.Goals as goal

pub returns-then-c-ge2 : goal.returns-then-c-ge2
returns-then-c-ge2 c = tails-is c.if-c-ge2.true c.all_tails.ensures

pub returns-else-c-ge2 : goal.returns-else-c-ge2
returns-else-c-ge2 c = tails-few (lt-leb _ _ (omega arith)) (omega arith)
