-- What each turn of the loop keeps.
use native.Mathlib.Omega.{arith}
use Prim.Native.Nat.{◌-◌}
use Rattle.load.proofs.LoadLaws.{ReadingVertices, length-inside, vertices-start, start_small, vertices-more, vertices-end}
use Rattle.load.proofs.load_vertices.Given as goal

abbrev pub invariant-loop-i : goal.invariant-loop-i
invariant-loop-i l = ReadingVertices l.rec l.at l.initial.vs l.vs l.i l.start
