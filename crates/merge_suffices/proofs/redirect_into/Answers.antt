-- `merge_suffices::redirect_into` meets its contract.
use native.Mathlib.Omega.{arith}
use Rattle.merge_suffices.proofs.EdgeLoops.{taking-start, taking-ready, taking-more}
use Rattle.merge_suffices.proofs.redirect_into.Goals as goal

pub loop-i-init : goal.loop-i-init
loop-i-init c = taking-start c.requires

pub redirect_edges-k-requires : goal.redirect_edges-k-requires
redirect_edges-k-requires c =
    taking-ready c.requires c.loop-i.invariant (omega arith)

pub loop-i-preserved : goal.loop-i-preserved
loop-i-preserved c =
    taking-more
    c.requires
    c.loop-i.invariant
    (omega arith)
    c.redirect_edges-k.ensures
    c.redirect_edges-k.auto.es
    c.redirect_edges-k.auto.map
