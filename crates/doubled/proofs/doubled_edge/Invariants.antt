-- What each turn of the loop keeps.
use native.Mathlib.Omega.{arith}
use Prim.Native.Nat.{◌-◌}
use mathlib.Core.Path.{refl, ◌∙◌}
use Rattle.doubled.proofs.DoubledLaws.{
  ScanningEdges,
  scanning-start,
  scanning-more,
  markable-kept,
  twins-doubled,
  twinless,
}
use Rattle.doubled.proofs.doubled_edge.Given as goal

abbrev pub invariant-loop-v : goal.invariant-loop-v
invariant-loop-v l = ScanningEdges l.m l.n l.es l.initial.marks l.marks l.v
