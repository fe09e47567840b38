-- `compact::mark_gone` meets its contract.
use mathlib.Core.Path.{refl}
use native.Mathlib.Omega.{arith}
use Prim.Native.Nat.{◌-◌}
use Rattle.compact.proofs.LoopLaws.{MarkingGone, marking-start, marking-more, marking-end}
use Rattle.compact.proofs.mark_gone.Goals as goal

pub loop-i-init : goal.loop-i-init
loop-i-init c = marking-start _ refl c.fill.ensures

pub loop-i-preserved : goal.loop-i-preserved
loop-i-preserved c =
    marking-more
    c.loop-i.invariant
    c.loop-i-test.true
    (c.requires.by_index _ c.loop-i-test.true)
    (omega arith)
