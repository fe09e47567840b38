-- `merge_linear_chain::move_edges` meets its contract.
use native.Mathlib.Omega.{arith}
use Rattle.merge_linear_chain.proofs.MoveLaws.{later}
use mathlib.Core.Path.{refl}
use Rattle.merge_linear_chain.proofs.MoveLaws.{moving-start, moving-more, moving-end}
use Rattle.merge_linear_chain.proofs.move_edges.Goals as goal

pub loop-e-init : goal.loop-e-init
loop-e-init c = moving-start c.requires.1 _ c.requires.0 refl

pub loop-e-smaller : goal.loop-e-smaller
loop-e-smaller c = omega (arith, later c.requires.1 _ c.loop-e-test.true)

pub loop-e-preserved : goal.loop-e-preserved
loop-e-preserved c =
    moving-more
    c.requires.1
    c.loop-e.invariant
    c.loop-e-test.true
    c.put_edge_from.ensures _ refl

pub returns : goal.returns
returns c =
    moving-end c.requires.1 c.loop-e.invariant c.loop-e-test.false
