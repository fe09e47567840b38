-- `redirect::redirect_edges` meets its contract.
use native.Mathlib.Omega.{arith}
use Rattle.redirect.proofs.RedirectLaws.{redirecting-start, redirecting-edge, redirecting-on, redirecting-more, redirecting-end}
use Rattle.redirect.proofs.redirect_edges.Goals as goal

pub loop-e-init : goal.loop-e-init
loop-e-init c = redirecting-start c.requires

pub redirect_edge-k-requires : goal.redirect_edge-k-requires
redirect_edge-k-requires c =
    redirecting-edge c.requires c.loop-e.invariant c.loop-e-test.true

pub loop-e-smaller : goal.loop-e-smaller
loop-e-smaller c = omega (arith, redirecting-on c.requires c.loop-e.invariant c.loop-e-test.true)

pub loop-e-preserved : goal.loop-e-preserved
loop-e-preserved c =
    redirecting-more
    c.requires
    c.loop-e.invariant
    c.loop-e-test.true
    c.redirect_edge-k.ensures
    c.redirect_edge-k.auto.es
    c.redirect_edge-k.auto.map

pub returns : goal.returns
returns c =
    redirecting-end c.requires c.loop-e.invariant c.loop-e-test.false
