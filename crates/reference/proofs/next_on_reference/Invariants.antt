-- What each turn of the loop keeps.
use Prim.Native.Nat.{◌-◌}
use Rattle.reference.proofs.NextLaws.{Looking}
use Rattle.reference.proofs.next_on_reference.Given as goal

abbrev pub invariant-loop-e : goal.invariant-loop-e
invariant-loop-e l = Looking l.m l.es l.v l.e

abbrev pub decreases-loop-e : goal.decreases-loop-e
decreases-loop-e l = l.m - l.e
