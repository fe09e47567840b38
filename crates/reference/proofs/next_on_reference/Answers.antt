-- `reference::next_on_reference` meets its contract.
use native.Mathlib.Omega.{arith}
use mathlib.Core.Path.{refl, sym, ◌∙◌}
use Rattle.paths.proofs.StepLaws.{out-index}
use Rattle.reference.proofs.NextLaws.{looking-start, looking-more, looking-found, looking-end, looking-none}
use Rattle.reference.proofs.next_on_reference.Goals as goal

pub returns-then-m-first : goal.returns-then-m-first
returns-then-m-first c =
    looking-none c.requires.1 _ c.requires.0 refl c.if-m-first.true

pub loop-e-init : goal.loop-e-init
loop-e-init c = looking-start c.requires.1 c.requires.0

pub returns-then-edge_is_ref : goal.returns-then-edge_is_ref
returns-then-edge_is_ref c =
    looking-found
    c.requires.1
    c.loop-e.invariant
    c.loop-e-test.true
    (sym c.edge_is_ref.ensures ∙ c.if-edge_is_ref.true)
    c.edge_to.ensures

pub loop-e-smaller : goal.loop-e-smaller
loop-e-smaller c = omega (arith, ((out-index c.requires.1).nexts _ c.loop-e-test.true).low)

pub loop-e-preserved : goal.loop-e-preserved
loop-e-preserved c =
    looking-more
    c.requires.1
    c.loop-e.invariant
    c.loop-e-test.true
    (sym c.edge_is_ref.ensures ∙ c.if-edge_is_ref.false)

pub returns : goal.returns
returns c =
    looking-end
    c.requires.1 _
    c.requires.0
    c.loop-e.invariant
    c.loop-e-test.false refl
    c.if-m-first.false
    c.edge_to-2.ensures
