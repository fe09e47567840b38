-- What each turn of the loop keeps.
use Prim.Native.Nat.{ℕ, ◌-◌}
use lib.Dec.{eqb}
use Rattle.index.specs.Index.{edge_end}
use Rattle.index.proofs.AdjLaws.{Testing}
use Rattle.diamond.proofs.all_enter.Given as goal

abbrev pub invariant-loop-e : goal.invariant-loop-e
invariant-loop-e l = Testing (edge_end 0 l.es) l.m l.v (λ (x : ℕ). eqb l.b (edge_end 1 l.es x)) l.e

abbrev pub decreases-loop-e : goal.decreases-loop-e
decreases-loop-e l = l.m - l.e
