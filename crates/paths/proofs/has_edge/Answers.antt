-- `paths::has_edge` meets its contract.
use native.Mathlib.Omega.{arith}
use mathlib.Core.Path.{◌∙◌}
use Rattle.refs.proofs.RefLaws.{seeking-start, seeking-more, seeking-found, seeking-end}
use Rattle.paths.proofs.StepLaws.{enters_at, any-ends, out-index, enters-yes, enters-no}
use Rattle.paths.proofs.has_edge.Goals as goal

pub loop-e-init : goal.loop-e-init
loop-e-init c =
    seeking-start (out-index c.requires.1) (enters_at c.args.es.now c.args.v) c.requires.0

pub returns-then-edge_to-v : goal.returns-then-edge_to-v
returns-then-edge_to-v c =
    seeking-found (out-index c.requires.1) (enters_at c.args.es.now c.args.v) c.loop-e.invariant
    c.loop-e-test.true (enters-yes _ _ c.edge_to.ensures c.if-edge_to-v.true)
    ∙ any-ends _ c.args.es.now _ _

pub loop-e-smaller : goal.loop-e-smaller
loop-e-smaller c = omega (arith, ((out-index c.requires.1).nexts _ c.loop-e-test.true).low)

pub loop-e-preserved : goal.loop-e-preserved
loop-e-preserved c =
    seeking-more
    (out-index c.requires.1)
    (enters_at c.args.es.now c.args.v)
    c.loop-e.invariant
    c.loop-e-test.true
    (enters-no _ _ c.edge_to.ensures c.if-edge_to-v.false)

pub returns : goal.returns
returns c =
    seeking-end (out-index c.requires.1) (enters_at c.args.es.now c.args.v) c.loop-e.invariant
    c.loop-e-test.false ∙ any-ends _ c.args.es.now _ _
