-- `reference::reference_path` meets its contract.
use native.Mathlib.Omega.{arith}
use Rattle.reference.proofs.WalkLaws.{walking_start, walking-there, walking-stuck, walking-more, walking-end}
use Rattle.reference.proofs.reference_path.Goals as goal

pub loop-c-init : goal.loop-c-init
loop-c-init c = walking_start c.requires.0.source-below

pub returns-then-v-sink : goal.returns-then-v-sink
returns-then-v-sink c =
    walking-there c.loop-c.invariant c.requires.0.room c.loop-c-test.true c.if-v-sink.true

pub returns-in_default : goal.returns-in_default
returns-in_default c =
    walking-stuck
    c.loop-c.invariant
    c.requires.0.room
    c.loop-c-test.true _
    c.if-v-sink.false
    c.next_on_reference.ensures
    c.in_default.is

pub overflow_cast-v : goal.overflow_cast-v
overflow_cast-v c = omega (arith, c.requires.0.small, c.next_on_reference.ensures.below _ c.in-Some.is)

pub loop-c-preserved : goal.loop-c-preserved
loop-c-preserved c =
    walking-more
    c.loop-c.invariant
    c.requires.0.room
    c.loop-c-test.true
    c.if-v-sink.false
    c.next_on_reference.ensures
    c.in-Some.is

pub returns : goal.returns
returns c = walking-end c.loop-c.invariant (omega arith)
