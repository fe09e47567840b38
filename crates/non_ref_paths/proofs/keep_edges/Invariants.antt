-- What each turn of the loop keeps.
use Rattle.non_ref_paths.proofs.EdgeKeeping.{Keeping}
use Rattle.non_ref_paths.proofs.keep_edges.Given as goal

abbrev pub invariant-loop-e : goal.invariant-loop-e
invariant-loop-e l = Keeping l.off l.m l.initial.es l.marks l.es l.e l.j
