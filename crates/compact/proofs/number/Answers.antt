-- `compact::number` meets its contract.
use native.Mathlib.Omega.{arith}
use Prim.Native.Nat.{◌-◌}
use Rattle.compact.proofs.LoopLaws.{Numbering, numbering_start, numbering-stays, numbering-goes, numbering-end}
use Rattle.compact.proofs.number.Goals.{then-map-v-eq0, else-map-v-eq0}
use Rattle.compact.proofs.number.Goals as goal

pub loop-v-init : goal.loop-v-init
loop-v-init c = numbering_start

pub loop-v-preserved : goal.loop-v-preserved
loop-v-preserved c =
    elim c.if-map-v-eq0.branch [
      | then-map-v-eq0 w ↦
          rw (w.map-is, w.j-is)
          (numbering-stays c.loop-v.invariant c.loop-v-test.true c.requires.0 w.if-map-v-eq0.true)
      | else-map-v-eq0 w ↦
          rw (w.map-is, w.j-is)
          (numbering-goes c.loop-v.invariant c.loop-v-test.true c.requires.0 w.if-map-v-eq0.false)
    ]

pub returns : goal.returns
returns c =
    numbering-end c.loop-v.invariant c.loop-v-test.false c.requires.0
