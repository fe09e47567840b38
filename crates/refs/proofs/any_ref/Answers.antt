-- `refs::any_ref` meets its contract.
use native.Mathlib.Omega.{arith}
use mathlib.Core.Path.{sym, ◌∙◌}
use Prim.Native.Nat.{◌+◌, ◌*◌, ◌-◌}
use borrow.Author.Tests.{eq-eqb, ne_eqb}
use Rattle.index.specs.Index.{edge_end}
use Rattle.refs.specs.Refs.{ref_at}
use Rattle.refs.proofs.RefLaws.{SeekingReference, seeking-start, seeking-more, seeking-found, seeking-end}
use Rattle.refs.proofs.any_ref.Goals as goal

pub loop-e-init : goal.loop-e-init
loop-e-init c =
    seeking-start (c.requires.1.1.index _ c.requires.1.0) (ref_at c.args.es.now) c.requires.0

pub returns-then-edge_is_ref : goal.returns-then-edge_is_ref
returns-then-edge_is_ref c =
    seeking-found
    (c.requires.1.1.index _ c.requires.1.0)
    (ref_at c.args.es.now)
    c.loop-e.invariant
    c.loop-e-test.true
    (sym c.edge_is_ref.ensures ∙ c.if-edge_is_ref.true)

pub loop-e-smaller : goal.loop-e-smaller
loop-e-smaller c =
    omega (arith, ((c.requires.1.1.index _ c.requires.1.0).nexts _ c.loop-e-test.true).low)

pub loop-e-preserved : goal.loop-e-preserved
loop-e-preserved c =
    seeking-more
    (c.requires.1.1.index _ c.requires.1.0)
    (ref_at c.args.es.now)
    c.loop-e.invariant
    c.loop-e-test.true
    (sym c.edge_is_ref.ensures ∙ c.if-edge_is_ref.false)

pub returns : goal.returns
returns c =
    seeking-end
    (c.requires.1.1.index _ c.requires.1.0)
    (ref_at c.args.es.now)
    c.loop-e.invariant
    c.loop-e-test.false
