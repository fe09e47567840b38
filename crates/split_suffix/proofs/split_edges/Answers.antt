-- `split_suffix::split_edges` meets its contract.
use native.Mathlib.Omega.{arith}
use Rattle.split_suffix.proofs.EdgeLoops.{block-link, block-redirectable, block-done}
use Rattle.std.proofs.lemmas.Grind.{common_steps}
use Rattle.split_suffix.proofs.split_edges.Goals as goal

pub link_suffix-j-requires : goal.link_suffix-j-requires
link_suffix-j-requires c = block-link c.requires

pub redirect_edges-requires : goal.redirect_edges-requires
redirect_edges-requires c =
    block-redirectable
    c.requires
    c.edge_support-s.ensures
    c.edge_flag-f.ensures
    c.link_suffix-j.ensures
    (grind (arith, common_steps))
    c.link_suffix-j.auto.es

pub returns : goal.returns
returns c =
    block-done
    c.requires
    c.edge_support-s.ensures
    c.edge_flag-f.ensures
    c.link_suffix-j.ensures
    (grind (arith, common_steps))
    c.redirect_edges.ensures
