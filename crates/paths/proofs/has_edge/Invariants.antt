-- What each turn of the loop keeps.
use Prim.Native.Nat.{◌-◌}
use Rattle.index.specs.Index.{edge_end}
use Rattle.refs.proofs.RefLaws.{SeekingReference}
use Rattle.paths.proofs.StepLaws.{enters_at}
use Rattle.paths.proofs.has_edge.Given as goal

abbrev pub invariant-loop-e : goal.invariant-loop-e
invariant-loop-e l = SeekingReference (edge_end 0 l.es) l.m l.u (enters_at l.es l.v) l.e

abbrev pub decreases-loop-e : goal.decreases-loop-e
decreases-loop-e l = l.m - l.e
