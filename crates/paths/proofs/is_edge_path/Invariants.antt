-- What each turn of the loop keeps.
use lib.ListN.{length}
use Rattle.paths.proofs.StepLaws.{Following}
use Rattle.paths.proofs.is_edge_path.Given as goal

abbrev pub invariant-loop-rest : goal.invariant-loop-rest
invariant-loop-rest l = Following l.m l.n l.es l.start l.list l.at l.rest

abbrev pub decreases-loop-rest : goal.decreases-loop-rest
decreases-loop-rest l = length l.rest
