-- `split_and_update::add_edges` meets its contract.
use native.Mathlib.Omega.{arith}
use Rattle.std.proofs.lemmas.Grind.{common_steps}
use mathlib.Core.Path.{refl}
use Rattle.split_and_update.proofs.AddLaws.{room₁, room₂, asks₃, room₄, asks₅, pushed-all}
use Rattle.split_and_update.proofs.add_edges.Goals as goal

pub push_edge_if-k1-requires : goal.push_edge_if-k1-requires
push_edge_if-k1-requires c = room₁ c.requires

pub push_edge_if-k2-requires : goal.push_edge_if-k2-requires
push_edge_if-k2-requires c = room₂ c.requires c.push_edge_if-k1.ensures

pub push_edge_if-k4-requires : goal.push_edge_if-k4-requires
push_edge_if-k4-requires c =
    room₄
    c.requires
    c.push_edge_if-k1.ensures
    c.push_edge_if-k2.ensures
    c.push_mid_edges-k3.ensures

pub push_mid_edges-k3-requires : goal.push_mid_edges-k3-requires
push_mid_edges-k3-requires c =
    let asks = asks₃ c.requires c.push_edge_if-k1.ensures c.push_edge_if-k2.ensures in
    record { off_bound = asks.0; c_in_bounds = asks.1 }

pub push_mid_edges-requires : goal.push_mid_edges-requires
push_mid_edges-requires c =
    let asks = asks₅ c.requires c.push_edge_if-k1.ensures c.push_edge_if-k2.ensures c.push_mid_edges-k3.ensures c.push_edge_if-k4.ensures in
    record { off_bound = asks.0; c_in_bounds = asks.1 }

pub returns : goal.returns
returns c =
    pushed-all
    c.requires
    c.push_edge_if-k1.ensures
    c.push_edge_if-k2.ensures
    c.push_mid_edges-k3.ensures
    c.push_edge_if-k4.ensures
    c.push_mid_edges.ensures
    c.prefix_to_suffix-d.result
    c.twice_if-once.result
    c.prefix_to_suffix-d.ensures
    c.flag_is_ref-direct.ensures
    c.mids_ref-to_mids.ensures
    c.mids_ref-from_mids.ensures
    (grind (arith, common_steps))
    c.new_flag-into.ensures
    (grind (arith, common_steps))
    c.new_flag-out.ensures refl refl refl refl refl refl
    (grind (arith, common_steps))
    (grind (arith, common_steps))
    (grind (arith, common_steps))
    (grind (arith, common_steps))
    c.twice_if-once.ensures refl refl
