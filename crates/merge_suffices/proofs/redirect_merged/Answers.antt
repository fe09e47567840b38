-- `merge_suffices::redirect_merged` meets its contract.
use Rattle.merge_suffices.proofs.EdgeLoops.{into-ready, out-ready, edges-done}
use Rattle.merge_suffices.proofs.redirect_merged.Goals as goal

pub redirect_into-k-requires : goal.redirect_into-k-requires
redirect_into-k-requires c =
    into-ready c.requires c.fill.auto.dst c.fill.ensures

pub redirect_edges-requires : goal.redirect_edges-requires
redirect_edges-requires c =
    out-ready c.requires c.redirect_into-k.ensures c.redirect_into-k.auto.es

pub returns : goal.returns
returns c =
    edges-done c.requires c.redirect_into-k.ensures c.redirect_edges.ensures
