-- `index::collect` meets its contract.
use native.Mathlib.Omega.{arith}
use Prim.Native.Nat.{◌+◌, ◌*◌, ◌-◌}
use Rattle.index.proofs.IndexLaws.{Collecting, collecting-start, collecting-more, collecting-end}
use Rattle.index.proofs.collect.Goals as goal

pub loop-e-init : goal.loop-e-init
loop-e-init c =
    collecting-start (c.requires.1.1.1.index _ c.requires.1.0) c.requires.0

pub loop-e-smaller : goal.loop-e-smaller
loop-e-smaller c =
    omega (arith, ((c.requires.1.1.1.index _ c.requires.1.0).nexts _ c.loop-e-test.true).low)

pub loop-e-preserved : goal.loop-e-preserved
loop-e-preserved c =
    collecting-more
    (c.requires.1.1.1.index _ c.requires.1.0)
    c.loop-e.invariant
    c.loop-e-test.true
    c.requires.1.1.0
    c.edge_end.ensures

pub returns : goal.returns
returns c =
    collecting-end (c.requires.1.1.1.index _ c.requires.1.0) c.loop-e.invariant c.loop-e-test.false
