-- `reach::walk` meets its contract.
use native.Mathlib.Omega.{arith}
use Rattle.reach.proofs.ReachLaws.{found-most, walking-more, walking-end}
use Rattle.reach.proofs.walk.Goals as goal

pub loop-h-smaller : goal.loop-h-smaller
loop-h-smaller c = omega (arith, found-most c.loop-h.invariant.found, c.loop-h-test.true)

pub loop-h-preserved : goal.loop-h-preserved
loop-h-preserved c =
    walking-more
    c.loop-h.invariant
    c.loop-h-test.true
    c.leave_vertex-tail.ensures
    c.leave_vertex-tail.auto.marks
    c.leave_vertex-tail.auto.queue

pub returns : goal.returns
returns c = walking-end c.requires.1.0.ends c.requires.0 c.loop-h.invariant c.loop-h-test.false
