-- What each turn of the loop keeps.
use native.Mathlib.Omega.{arith}
use Prim.Native.Nat.{◌-◌}
use Rattle.pool.proofs.PoolLaws.{
  Gathering,
  gathering-start,
  gathering-apart,
  gathering-more,
  gathering-end,
  bytes_below,
}
use Rattle.pool.proofs.gather.Given as goal

abbrev pub invariant-loop-v : goal.invariant-loop-v
invariant-loop-v l = Gathering l.base l.n l.initial.vs l.initial.p l.vs l.p l.used l.v
