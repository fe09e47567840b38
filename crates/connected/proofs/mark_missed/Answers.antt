-- `connected::mark_missed` meets its contract.
use Rattle.connected.proofs.ConnectedLaws.{missing-start, missing-yes, missing-no}
use Rattle.connected.proofs.mark_missed.Goals.{then-marks-v-eq0, else-marks-v-eq0}
use Rattle.connected.proofs.mark_missed.Goals as goal

pub loop-v-init : goal.loop-v-init
loop-v-init c = missing-start

pub loop-v-preserved : goal.loop-v-preserved
loop-v-preserved c = elim c.if-marks-v-eq0.branch [
  | then-marks-v-eq0 w ↦ rw w.map-is (missing-yes c.loop-v.invariant c.loop-v-test.true c.requires.1 w.if-marks-v-eq0.true)
  | else-marks-v-eq0 w ↦ rw w.map-is (missing-no c.loop-v.invariant c.loop-v-test.true w.if-marks-v-eq0.false)
]
