-- `cycle::queue_sources` meets its contract.
use native.Mathlib.Omega.{arith}
use Prim.Native.Nat.{◌-◌}
use Rattle.cycle.proofs.PeelLaws.{Sourcing, sourcing-start, sourcing-push, sourcing-pass, sourcing-end}
use Rattle.cycle.proofs.queue_sources.Goals.{then-degrees-v-eq0, else-degrees-v-eq0}
use Rattle.cycle.proofs.queue_sources.Goals as goal

pub loop-v-init : goal.loop-v-init
loop-v-init c = sourcing-start

pub loop-v-preserved : goal.loop-v-preserved
loop-v-preserved c =
    elim c.if-degrees-v-eq0.branch [
      | then-degrees-v-eq0 w ↦
          rw (w.queue-is, w.tail-is)
          (sourcing-push c.loop-v.invariant c.loop-v-test.true c.requires.queue-room w.if-degrees-v-eq0.true)
      | else-degrees-v-eq0 w ↦
          rw (w.queue-is, w.tail-is)
          (sourcing-pass c.loop-v.invariant c.loop-v-test.true w.if-degrees-v-eq0.false)
    ]
