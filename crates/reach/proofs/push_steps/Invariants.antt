-- What each turn of the loop keeps.
use Prim.Native.Nat.{◌-◌}
use Rattle.reach.specs.Reach.{direction_number}
use Rattle.reach.proofs.ReachLaws.{PushingFound}
use Rattle.reach.proofs.push_steps.Given as goal

abbrev pub invariant-loop-e : goal.invariant-loop-e
invariant-loop-e l =
    PushingFound l.plain (direction_number l.fn.direction) l.off l.m l.n l.es l.s l.h l.u l.initial.marks l.initial.queue l.queued l.marks l.queue l.tail l.e

abbrev pub decreases-loop-e : goal.decreases-loop-e
decreases-loop-e l = l.m - l.e
