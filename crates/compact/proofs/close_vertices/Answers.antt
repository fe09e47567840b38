-- `compact::close_vertices` meets its contract.
use native.Mathlib.Omega.{arith}
use Prim.Native.Nat.{◌-◌}
use Rattle.compact.proofs.LoopLaws.{ClosingV, closing-v-start, closing-v-drop, closing-v-keep, closing-v-end}
use Rattle.compact.proofs.close_vertices.Goals.{then-map-v-ne0, else-map-v-ne0}
use Rattle.compact.proofs.close_vertices.Goals as goal

pub loop-v-init : goal.loop-v-init
loop-v-init c = closing-v-start

pub loop-v-preserved : goal.loop-v-preserved
loop-v-preserved c =
    elim c.if-map-v-ne0.branch [
      | then-map-v-ne0 w ↦
          rw (w.vs-is, w.j-is)
          (closing-v-keep
          c.loop-v.invariant
          c.loop-v-test.true
          c.requires.0
          w.if-map-v-ne0.true
          w.start_number-start.ensures
          w.len_number-len.ensures
          w.put_vertex.ensures)
      | else-map-v-ne0 w ↦
          rw (w.vs-is, w.j-is)
          (closing-v-drop c.loop-v.invariant c.loop-v-test.true w.if-map-v-ne0.false)
    ]
