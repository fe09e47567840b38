-- `diamond::degree_is` meets its contract.
use native.Mathlib.Omega.{arith}
use Rattle.index.proofs.AdjLaws.{walked_start, walked_more}
use Rattle.diamond.proofs.TestLaws.{count_past, count-end}
use Rattle.diamond.proofs.degree_is.Goals as goal

pub loop-e-init : goal.loop-e-init
loop-e-init c =
    walked_start (c.requires.1.1.index _ c.requires.1.0) c.requires.0

pub returns-then-d-c : goal.returns-then-d-c
returns-then-d-c c =
    count_past
    (c.requires.1.1.index _ c.requires.1.0)
    c.loop-e.invariant
    c.loop-e-test.true
    c.if-d-c.true

pub loop-e-smaller : goal.loop-e-smaller
loop-e-smaller c =
    omega (arith, ((c.requires.1.1.index _ c.requires.1.0).nexts _ c.loop-e-test.true).low)

pub loop-e-preserved : goal.loop-e-preserved
loop-e-preserved c =
    walked_more (c.requires.1.1.index _ c.requires.1.0) c.loop-e.invariant c.loop-e-test.true

pub returns : goal.returns
returns c =
    count-end c.args.c (c.requires.1.1.index _ c.requires.1.0) c.loop-e.invariant c.loop-e-test.false
