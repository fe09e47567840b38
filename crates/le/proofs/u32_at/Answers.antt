-- `le::u32_at` meets its contract.
use native.Mathlib.Omega.{arith}
use Rattle.defs.specs.Record.{u32_at}
use Rattle.le.proofs.u32_at.Goals as goal

pub returns : goal.returns
unfolding u32_at
returns c = omega arith
