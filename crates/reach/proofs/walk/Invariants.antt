-- What each turn of the loop keeps.
use Prim.Native.Nat.{◌-◌}
use Rattle.reach.specs.Reach.{direction_number}
use Rattle.reach.proofs.ReachLaws.{WalkingQueue}
use Rattle.reach.proofs.walk.Given as goal

abbrev pub invariant-loop-h : goal.invariant-loop-h
invariant-loop-h l = WalkingQueue l.plain (direction_number l.direction) l.m l.n l.es l.s l.initial.marks l.initial.queue l.marks l.queue l.tail l.h

abbrev pub decreases-loop-h : goal.decreases-loop-h
decreases-loop-h l = l.n - l.h
