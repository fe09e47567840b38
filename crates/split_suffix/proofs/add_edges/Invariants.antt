-- What each turn of the loop keeps.
use Rattle.split_suffix.proofs.EdgeLoops.{AddingEdges}
use Rattle.split_suffix.proofs.add_edges.Given as goal

abbrev pub invariant-loop-i : goal.invariant-loop-i
invariant-loop-i l = AddingEdges l.m l.n l.s l.initial.es l.initial.map l.heads l.vs l.nodes l.c l.bottom l.y l.k l.es l.map l.i
