-- What each turn of the loop keeps.
use Prim.Native.Nat.{◌-◌}
use Rattle.merge_linear_chain.proofs.MoveLaws.{MovingEdges}
use Rattle.merge_linear_chain.proofs.move_edges.Given as goal

abbrev pub invariant-loop-e : goal.invariant-loop-e
invariant-loop-e l = MovingEdges l.m l.initial.es l.es l.last l.start l.e

abbrev pub decreases-loop-e : goal.decreases-loop-e
decreases-loop-e l = l.m - l.e
