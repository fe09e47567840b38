-- Room that stays when vertices go. Assumes nothing.
use mathlib.Core.Path.{◌≡◌}
use mathlib.Core.Bool.{Bool}
use mathlib.Core.List.{List}
use Prim.Native.Nat.{ℕ, suc, ◌*◌, ◌≤◌}
use native.Mathlib.Omega.{arith}
use lib.ListN.{length}
use Rattle.defs.specs.SeqGraph.{Graph, node_count, compact_vertices}
use Rattle.defs.specs.Simplify.{simplify_graph_full, min_tail_suffix_len}
use Rattle.defs.specs.Cleanup.{remove_singleton_orphan_vertices, remove_vertices_not_connected_to_ref, remove_paths_not_connected_to_ref}
use Rattle.laws.proofs.Counts.{total, heft}
use Rattle.laws.proofs.Branching.{branching-restrict, surplus-branching}
use Rattle.laws.proofs.Measures.{load, bytes-is, weight_is, Tame}
use Rattle.laws.proofs.Bound.{simplify-tame, simplify-bound}
use Rattle.laws.proofs.Cleaned.{restrict-good, orphans-keep, connected-keeps}
use Rattle.laws.proofs.Room.{total-keep_at}
use Rattle.memory.specs.Memory.{vertex_room, Fit}
use Rattle.choice.specs.Choice.{Lean}

pub lean-fit : {g : Graph} {heads nexts : List ℕ} → Lean g heads nexts → Fit g heads nexts
unfolding load
lean-fit {g} L = record { good = L.good; light = omega (arith, L.light); surplus = omega (arith, L.narrow, surplus-branching g L.good.0.bounded) }

pub lean-tame : {g g' : Graph} {heads nexts : List ℕ} → Lean g heads nexts → Tame g g' → Lean g' heads nexts
lean-tame L t = record { good = t.good; light = omega (arith, L.light, t.light); narrow = omega (arith, L.narrow, t.branches, t.fewer) }

pub lean-as : {g g' : Graph} {heads nexts : List ℕ} → g ≡ g' → Lean g' heads nexts → Lean g heads nexts
lean-as q L = rw q L

pub lean-kept : {g : Graph} {heads nexts heads' nexts' : List ℕ} → Lean g heads nexts → length heads' ≡ length heads → length nexts'
    ≡ length nexts → Lean g heads' nexts'
lean-kept L d e = record { good = L.good; light = rw d L.light; narrow = rw (d, e) L.narrow }

-- ---- vertices go

pub lean-restrict : {heads nexts : List ℕ} (p : ℕ → Bool) (g : Graph) → Lean g heads nexts → Lean (compact_vertices p g) heads nexts
lean-restrict p g L = record {
  good = restrict-good p g L.good;
  light = omega (arith, L.light, weight_is g, weight_is (compact_vertices p g), less heft);
  narrow = omega (arith, L.narrow, branching-restrict p g, bytes-is g.verts, bytes-is (compact_vertices p g).verts, less length);
}
  where
    less : (f : List ℕ → ℕ) → total f (compact_vertices p g).verts ≤ total f g.verts
    less f = unfold compact_vertices in (total-keep_at f p 0 g.verts)

module _ {heads nexts : List ℕ} {g : Graph} (L : Lean g heads nexts) where
  pub lean-connected : Lean (remove_vertices_not_connected_to_ref (remove_singleton_orphan_vertices g)) heads nexts
  unfolding remove_singleton_orphan_vertices
  lean-connected = connected-keeps (λ x. Lean x heads nexts) lean-restrict _ (orphans-keep (λ x. Lean x heads nexts) lean-restrict (suc (node_count g)) g L)

  pub lean-between : (s t : ℕ) → Lean (remove_paths_not_connected_to_ref g s t) heads nexts
  unfolding remove_paths_not_connected_to_ref
  lean-between s t = lean-restrict _ g L

  pub lean-simplified : Lean (simplify_graph_full min_tail_suffix_len g).graph heads nexts
  lean-simplified = lean-tame L (simplify-tame min_tail_suffix_len (omega arith) g L.good)

  pub lean-rewrites : (simplify_graph_full min_tail_suffix_len g).rewrites ≤ 202 * vertex_room heads
  lean-rewrites = omega (arith, simplify-bound min_tail_suffix_len (omega arith) g L.good, L.light)
