-- `doubled::doubled_from` meets its contract.
use native.Mathlib.Omega.{arith}
use Prim.Native.Nat.{◌*◌, ◌-◌}
use mathlib.Core.Path.{refl}
use Rattle.doubled.proofs.DoubledLaws.{
  MarkingTargets,
  marking-start,
  marking-found,
  marking-more,
  marking-end,
  next-later,
}
use Rattle.doubled.proofs.doubled_from.Goals as goal

pub loop-e-init : goal.loop-e-init
loop-e-init c =
    marking-start c.requires.1.0 refl c.requires.0 c.requires.1.1.1

pub loop-e-preserved : goal.loop-e-preserved
loop-e-preserved c =
    marking-more
    c.requires.1.0
    c.loop-e.invariant
    c.loop-e-test.true
    c.edge_to-to.ensures
    c.if-marks-to.false
    c.requires.1.1.0.room refl
