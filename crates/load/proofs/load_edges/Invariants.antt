-- What each turn of the loop keeps.
use native.Mathlib.Omega.{arith}
use Prim.Native.Nat.{◌-◌}
use Rattle.load.proofs.LoadLaws.{ReadingEdges, record-edge-inside, edges-start, edges_more, edges-end}
use Rattle.load.proofs.load_edges.Given as goal

abbrev pub invariant-loop-i : goal.invariant-loop-i
invariant-loop-i l = ReadingEdges l.rec l.initial.es l.es l.i
