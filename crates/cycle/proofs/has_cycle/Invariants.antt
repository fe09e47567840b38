-- What each turn of the loop keeps.
use native.Mathlib.Omega.{arith}
use Prim.Native.Nat.{◌-◌}
use mathlib.Core.Path.{refl, ◌∙◌}
use Rattle.cycle.proofs.QueueLaws.{queue-most}
use Rattle.cycle.proofs.PeelLaws.{Peels, peelable-kept, peeling-end}
use Rattle.cycle.proofs.has_cycle.Given as goal

abbrev pub invariant-loop-h : goal.invariant-loop-h
invariant-loop-h l = Peels l.m l.n l.es l.initial.degrees l.degrees l.initial.queue l.queue l.h l.tail

abbrev pub decreases-loop-h : goal.decreases-loop-h
decreases-loop-h l = l.n - l.h
