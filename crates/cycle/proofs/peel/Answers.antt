-- `cycle::peel` meets its contract.
use native.Mathlib.Omega.{arith}
use Prim.Native.Nat.{◌*◌, ◌-◌}
use mathlib.Core.Path.{refl}
use lib.ListN.{get_or}
use Rattle.cycle.proofs.QueueLaws.{queue-most}
use Rattle.cycle.proofs.PeelLaws.{
  TakingEdges,
  taking-start,
  taking-pass,
  taking-push,
  taking-end,
  taking-later,
  taken-some,
  taken-fits,
}
use Rattle.cycle.proofs.peel.Goals as goal

pub offset_bounds-queue-h : goal.offset_bounds-queue-h
offset_bounds-queue-h c = omega (arith, queue-most c.requires.1.1.1.queued, c.requires.1.1.0.queue-room)

pub bounds-queue-h : goal.bounds-queue-h
bounds-queue-h c = omega (arith, queue-most c.requires.1.1.1.queued, c.requires.1.1.0.queue-room)

pub loop-e-init : goal.loop-e-init
loop-e-init c =
    taking-start c.requires.1.0 c.requires.0 c.requires.1.1.1 refl refl

pub overflow_sub-left : goal.overflow_sub-left
overflow_sub-left c =
    omega (
      arith,
      taken-some c.requires.1.0 c.loop-e.invariant c.loop-e-test.true
          c.edge_to-to.ensures c.requires.1.1.0.degrees-room,
    )

pub offset_bounds-queue-tail : goal.offset_bounds-queue-tail
offset_bounds-queue-tail c =
    omega (
      arith,
      taken-fits c.requires.1.0 c.loop-e.invariant c.loop-e-test.true
          c.requires.1.1.0.degrees-room,
      c.requires.1.1.0.queue-room,
      c.loop-e.invariant.queue-len,
    )

pub bounds-queue-tail : goal.bounds-queue-tail
bounds-queue-tail c =
    omega (
      arith,
      taken-fits c.requires.1.0 c.loop-e.invariant c.loop-e-test.true
          c.requires.1.1.0.degrees-room,
      c.requires.1.1.0.queue-room,
      c.loop-e.invariant.queue-len,
    )

pub overflow_add-tail : goal.overflow_add-tail
overflow_add-tail c =
    omega (
      arith,
      taken-fits c.requires.1.0 c.loop-e.invariant c.loop-e-test.true
          c.requires.1.1.0.degrees-room,
      c.requires.1.1.0.queue-room,
    )

pub loop-e-smaller-then-left-eq0 : goal.loop-e-smaller-then-left-eq0
loop-e-smaller-then-left-eq0 c =
    omega (arith, taking-later c.requires.1.0 c.loop-e.invariant c.loop-e-test.true)

pub loop-e-preserved-then-left-eq0 : goal.loop-e-preserved-then-left-eq0
loop-e-preserved-then-left-eq0 c =
    taking-push
    c.requires.1.0
    c.loop-e.invariant
    c.loop-e-test.true
    c.requires.1.1.0.degrees-room
    c.edge_to-to.ensures
    c.requires.1.1.0.queue-room
    c.if-left-eq0.true refl

pub loop-e-smaller : goal.loop-e-smaller
loop-e-smaller c = omega (arith, taking-later c.requires.1.0 c.loop-e.invariant c.loop-e-test.true)

pub loop-e-preserved : goal.loop-e-preserved
loop-e-preserved c =
    taking-pass
    c.requires.1.0
    c.loop-e.invariant
    c.loop-e-test.true
    c.requires.1.1.0.degrees-room
    c.edge_to-to.ensures
    c.if-left-eq0.false refl

pub returns : goal.returns
returns c =
    taking-end c.requires.1.0 c.loop-e.invariant c.loop-e-test.false
