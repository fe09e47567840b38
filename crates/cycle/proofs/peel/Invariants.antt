-- What each turn of the loop keeps.
use native.Mathlib.Omega.{arith}
use Prim.Native.Nat.{◌*◌, ◌-◌}
use mathlib.Core.Path.{refl}
use lib.ListN.{get_or}
use Rattle.cycle.proofs.QueueLaws.{queue-most}
use Rattle.cycle.proofs.PeelLaws.{
  TakingEdges,
  taking-start,
  taking-pass,
  taking-push,
  taking-end,
  taking-later,
  taken-some,
  taken-fits,
}
use Rattle.cycle.proofs.peel.Given as goal

abbrev pub invariant-loop-e : goal.invariant-loop-e
invariant-loop-e l = TakingEdges l.m l.n l.es l.h l.u l.initial.degrees l.degrees l.initial.queue l.queue l.tail l.e

abbrev pub decreases-loop-e : goal.decreases-loop-e
decreases-loop-e l = l.m - l.e
