-- `splits::move_marks` meets its contract.
use native.Mathlib.Omega.{arith}
use Rattle.store.proofs.EdgeLaws.{set_is, set-not}
use Rattle.splits.proofs.MarkLaws.{moving-start, moving-yes, moving-no}
use Rattle.splits.proofs.move_marks.Goals as goal
use Rattle.splits.proofs.move_marks.Goals.{then-map-v-ne0, else-map-v-ne0}

pub loop-v-init : goal.loop-v-init
loop-v-init c = moving-start

pub loop-v-preserved : goal.loop-v-preserved
loop-v-preserved c = elim c.if-map-v-ne0.branch [
  | then-map-v-ne0 w ↦ rw (w.tried-is, w.j-is) (moving-yes c.loop-v.invariant (omega arith) c.requires.room (set_is w.if-map-v-ne0.true))
  | else-map-v-ne0 w ↦ rw (w.tried-is, w.j-is) (moving-no c.loop-v.invariant (omega arith) (set-not w.if-map-v-ne0.false))
]
