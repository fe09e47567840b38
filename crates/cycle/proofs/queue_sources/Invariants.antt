-- What each turn of the loop keeps.
use native.Mathlib.Omega.{arith}
use Prim.Native.Nat.{◌-◌}
use Rattle.cycle.proofs.PeelLaws.{Sourcing, sourcing-start, sourcing-push, sourcing-pass, sourcing-end}
use Rattle.cycle.proofs.queue_sources.Given as goal

abbrev pub invariant-loop-v : goal.invariant-loop-v
invariant-loop-v l = Sourcing l.n l.degrees l.initial.queue l.queue l.tail l.v
