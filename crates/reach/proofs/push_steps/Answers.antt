-- `reach::push_steps` meets its contract.
use native.Mathlib.Omega.{arith}
use mathlib.Core.Path.{refl, sym, ◌∙◌}
use Rattle.store.proofs.EdgeLaws.{set_is, set-not}
use Rattle.reach.proofs.ReachLaws.{found-most, pushing-start, pushing-later, pushing-room, pushing-shut, pushing-seen, pushing-push}
use Rattle.reach.proofs.push_steps.Goals as goal

pub offset_bounds-queue-h : goal.offset_bounds-queue-h
offset_bounds-queue-h c = omega (arith, found-most c.requires.1.1.1.1, c.requires.0, c.requires.1.1.1.0.queue-room)

pub bounds-queue-h : goal.bounds-queue-h
bounds-queue-h c =
    omega (arith, found-most c.requires.1.1.1.1, c.requires.0, c.requires.1.1.1.0.queue-room)

pub loop-e-init : goal.loop-e-init
loop-e-init c =
    pushing-start c.requires.1.1.0 c.requires.1.0 c.requires.1.1.1.1 c.requires.0 refl

pub offset_bounds-queue-tail : goal.offset_bounds-queue-tail
offset_bounds-queue-tail c =
    omega (
      arith,
      pushing-room c.requires.1.1.0 c.requires.1.0 c.loop-e.invariant
          c.loop-e-test.true c.requires.1.1.1.0 c.edge_end-w.ensures
          (set-not c.if-marks-w-eq0.true),
      c.loop-e.invariant.queue-len,
      c.requires.1.1.1.0.queue-room,
    )

pub bounds-queue-tail : goal.bounds-queue-tail
bounds-queue-tail c =
    omega (
      arith,
      pushing-room c.requires.1.1.0 c.requires.1.0 c.loop-e.invariant
          c.loop-e-test.true c.requires.1.1.1.0 c.edge_end-w.ensures
          (set-not c.if-marks-w-eq0.true),
      c.loop-e.invariant.queue-len,
      c.requires.1.1.1.0.queue-room,
    )

pub overflow_add-tail : goal.overflow_add-tail
overflow_add-tail c =
    omega (
      arith,
      pushing-room c.requires.1.1.0 c.requires.1.0 c.loop-e.invariant
          c.loop-e-test.true c.requires.1.1.1.0 c.edge_end-w.ensures
          (set-not c.if-marks-w-eq0.true),
      c.requires.1.1.1.0.small,
    )

pub loop-e-smaller-then-marks-w-eq0 : goal.loop-e-smaller-then-marks-w-eq0
loop-e-smaller-then-marks-w-eq0 c =
    omega (
      arith,
      pushing-later c.requires.1.1.0 c.requires.1.0 c.loop-e.invariant
          c.loop-e-test.true,
    )

pub loop-e-preserved-then-marks-w-eq0 : goal.loop-e-preserved-then-marks-w-eq0
loop-e-preserved-then-marks-w-eq0 c =
    pushing-push
    c.requires.1.1.0
    c.requires.1.0
    c.loop-e.invariant
    c.loop-e-test.true
    c.requires.1.1.1.0
    c.edge_end-w.ensures
    (set-not c.if-marks-w-eq0.true)
    c.requires.0
    (sym c.takes_end.ensures ∙ c.if-not-takes_end.false)
    (sym c.may_pass.ensures ∙ c.if-may_pass.true)

pub loop-e-smaller-else-marks-w-eq0 : goal.loop-e-smaller-else-marks-w-eq0
loop-e-smaller-else-marks-w-eq0 c =
    omega (
      arith,
      pushing-later c.requires.1.1.0 c.requires.1.0 c.loop-e.invariant
          c.loop-e-test.true,
    )

pub loop-e-preserved-else-marks-w-eq0 : goal.loop-e-preserved-else-marks-w-eq0
loop-e-preserved-else-marks-w-eq0 c =
    pushing-seen
    c.requires.1.1.0
    c.requires.1.0
    c.loop-e.invariant
    c.loop-e-test.true
    c.edge_end-w.ensures
    (set_is c.if-marks-w-eq0.false)

pub loop-e-smaller : goal.loop-e-smaller
loop-e-smaller c =
    omega (
      arith,
      pushing-later c.requires.1.1.0 c.requires.1.0 c.loop-e.invariant
          c.loop-e-test.true,
    )

pub loop-e-preserved : goal.loop-e-preserved
loop-e-preserved c =
    pushing-shut
    c.requires.1.1.0
    c.requires.1.0
    c.loop-e.invariant
    c.loop-e-test.true
    (sym c.may_pass.ensures ∙ c.if-may_pass.false)
