-- What each turn of the loop keeps.
use Rattle.split_suffix.proofs.VertexLoops.{Stacking}
use Rattle.split_suffix.proofs.add_vertices.Given as goal

abbrev pub invariant-loop-i : goal.invariant-loop-i
invariant-loop-i l = Stacking l.n l.initial.vs l.nodes l.c l.from l.s l.k l.vs l.i
