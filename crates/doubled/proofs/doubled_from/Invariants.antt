-- What each turn of the loop keeps.
use native.Mathlib.Omega.{arith}
use Prim.Native.Nat.{◌*◌, ◌-◌}
use mathlib.Core.Path.{refl}
use Rattle.doubled.proofs.DoubledLaws.{
  MarkingTargets,
  marking-start,
  marking-found,
  marking-more,
  marking-end,
  next-later,
}
use Rattle.doubled.proofs.doubled_from.Given as goal

abbrev pub invariant-loop-e : goal.invariant-loop-e
invariant-loop-e l = MarkingTargets l.m l.n l.es l.v l.initial.marks l.marks l.e

abbrev pub decreases-loop-e : goal.decreases-loop-e
decreases-loop-e l = l.m - l.e
