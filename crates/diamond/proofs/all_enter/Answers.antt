-- `diamond::all_enter` meets its contract.
use native.Mathlib.Omega.{arith}
use mathlib.Core.Path.{sym, ◌∙◌}
use borrow.Author.Tests.{ne_eqb}
use Rattle.index.proofs.AdjLaws.{testing-fails, testing-end}
use Rattle.diamond.proofs.TestLaws.{enter-start, enter-more, enter-on}
use Rattle.diamond.proofs.all_enter.Goals as goal

pub loop-e-init : goal.loop-e-init
loop-e-init c = enter-start c.requires.1 _ _ c.requires.0

pub returns-then-edge_to-b : goal.returns-then-edge_to-b
returns-then-edge_to-b c =
    testing-fails
    (c.requires.1.index 0 (omega arith)) _
    c.loop-e.invariant
    c.loop-e-test.true
    (ne_eqb _ _ (λ q. c.if-edge_to-b.true (c.edge_to.ensures ∙ sym q)))

pub loop-e-smaller : goal.loop-e-smaller
loop-e-smaller c = omega (arith, enter-on c.requires.1 0 0 c.loop-e.e c.loop-e-test.true)

pub loop-e-preserved : goal.loop-e-preserved
loop-e-preserved c =
    enter-more
    c.requires.1 _ _ _
    c.loop-e.invariant
    c.loop-e-test.true
    (sym c.if-edge_to-b.false ∙ c.edge_to.ensures)

pub returns : goal.returns
returns c = testing-end (c.requires.1.index 0 (omega arith)) _ c.loop-e.invariant c.loop-e-test.false
