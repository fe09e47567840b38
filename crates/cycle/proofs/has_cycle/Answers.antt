-- `cycle::has_cycle` meets its contract.
use native.Mathlib.Omega.{arith}
use Prim.Native.Nat.{◌-◌}
use mathlib.Core.Path.{refl, ◌∙◌}
use Rattle.cycle.proofs.QueueLaws.{queue-most}
use Rattle.cycle.proofs.PeelLaws.{Peels, peelable-kept, peeling-end}
use Rattle.cycle.proofs.has_cycle.Goals as goal

pub loop-h-smaller : goal.loop-h-smaller
loop-h-smaller c = omega (arith, queue-most c.loop-h.invariant.peeling.queued)

pub overflow_sub-result : goal.overflow_sub-result
overflow_sub-result c = omega (arith, queue-most c.loop-h.invariant.peeling.queued)

pub returns : goal.returns
returns c = peeling-end c.requires.0.ends c.loop-h.invariant.peeling c.loop-h-test.false
