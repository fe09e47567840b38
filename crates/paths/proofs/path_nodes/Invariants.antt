-- What each turn of the loop keeps.
use lib.ListN.{length}
use Rattle.paths.proofs.NodeLaws.{Noting}
use Rattle.paths.proofs.path_nodes.Given as goal

abbrev pub invariant-loop-rest : goal.invariant-loop-rest
invariant-loop-rest l = Noting l.start l.list l.initial.nodes l.nodes l.c l.rest

abbrev pub decreases-loop-rest : goal.decreases-loop-rest
decreases-loop-rest l = length l.rest
