-- What each turn of the loop keeps.
use native.Mathlib.Omega.{arith}
use Prim.Native.Nat.{◌-◌}
use Rattle.compact.proofs.LoopLaws.{ClosingV, closing-v-start, closing-v-drop, closing-v-keep, closing-v-end}
use Rattle.compact.proofs.close_vertices.Given as goal

abbrev pub invariant-loop-v : goal.invariant-loop-v
invariant-loop-v l = ClosingV l.map l.n l.initial.vs l.vs l.v l.j
