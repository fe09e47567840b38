-- `le::u16_at` meets its contract.
use native.Mathlib.Omega.{arith}
use Rattle.defs.specs.Record.{u16_at}
use Rattle.le.proofs.u16_at.Goals as goal

pub returns : goal.returns
unfolding u16_at
returns c = omega arith
