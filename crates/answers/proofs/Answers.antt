-- What simplification and cleanup keep of a graph: k, small supports, and few bytes.
-- Assumes nothing.
use Prim.Native.Nat.{ℕ, suc, ◌≤◌}
use native.Mathlib.Omega.{arith}
use mathlib.Core.Path.{◌≡◌, sym, ap, ◌∙◌}
use mathlib.Core.Bool.{true, false}
use mathlib.Core.Option.{Option, none, some}
use mathlib.Core.List.{List, [], ◌∷◌}
use Rattle.defs.specs.SeqGraph.{Graph, node_count}
use Rattle.defs.specs.Zip.{Work, zip_linear_chains}
use Rattle.defs.specs.Simplify.{sequence_bytes, simplify_graph_full, min_tail_suffix_len}
use Rattle.defs.specs.Cleanup.{remove_singleton_orphan_vertices, remove_vertices_not_connected_to_ref}
use Rattle.defs.specs.Cleanup.{remove_paths_not_connected_to_ref, with_dummy_vertex, before_choice, choice_graph, after_choice, cleanup_seq_graph}
use Rattle.laws.proofs.Whole.{by_list}
use Rattle.laws.proofs.Room.{Narrow, simplify-narrow, choice-narrow, between-narrow}
use Rattle.laws.proofs.Cleaned.{orphans-keep, connected-keeps, sink-nil, sink-one, sink-more}
use Rattle.answers.proofs.Kept.{simplify-kept, zip-kept}
use Rattle.answers.proofs.Supports.{SmallSupports, none-small, cons-small, Fields, compact-fields, fields-kept}

-- cleanup
module _ {k : ℕ} where
  pub simplify-fields : (g : Graph) → Fields k g → Fields k (simplify_graph_full min_tail_suffix_len g).graph
  simplify-fields g F = simplify-kept (Fields k) (fields-kept k) min_tail_suffix_len g F

  choice-fields : (g : Graph) → Fields k g → Fields k (choice_graph g)
  unfolding choice_graph before_choice remove_singleton_orphan_vertices
  choice-fields g F =
      let w : Work = record { graph = g; rewrites = 0 } in
      let g₁ = (zip_linear_chains w).graph in
      let g₂ = remove_singleton_orphan_vertices g₁ in
      simplify-fields (remove_vertices_not_connected_to_ref g₂) (connected-keeps (Fields k) compact-fields g₂
      (orphans-keep (Fields k) compact-fields (suc (node_count g₁)) g₁ (zip-kept (Fields k) (fields-kept k) w F)))

  dummy-fields : (g : Graph) → Fields k g → Fields k (with_dummy_vertex g)
  dummy-fields g F = by_list g.verts
      (λ q. rw (sink-nil g q) F)
      (λ v vs q. by_list vs
      (λ r. rw (sink-one g v (q ∙ ap (λ (l : List (List ℕ)). v ∷ l) r)) record { k-is = F.k-is; supports = dummy-small })
      (λ u us r. rw (sink-more g v u us (q ∙ ap (λ (l : List (List ℕ)). v ∷ l) r)) F))
    where
      dummy-small : SmallSupports (record { from = 0; to = 1; support = 0; is_ref = true; capped = false } ∷ [])
      dummy-small = cons-small (omega arith) none-small

  after-fields : (w : Work) (s t : Option ℕ) → Fields k w.graph → Fields k (after_choice w s t).graph
  unfolding after_choice remove_paths_not_connected_to_ref
  after-fields w none t F = F
  after-fields w (some s) none F = F
  after-fields w (some s) (some t) F = dummy-fields (simplify_graph_full min_tail_suffix_len (remove_paths_not_connected_to_ref w.graph s t)).graph
      (simplify-fields (remove_paths_not_connected_to_ref w.graph s t) (compact-fields _ w.graph F))

  pub cleanup-fields : (g : Graph) → Fields k g → Fields k (cleanup_seq_graph g).graph
  unfolding cleanup_seq_graph choice_graph
  cleanup-fields g F = after-fields (before_choice g) _ _ (choice-fields g F)

-- the dummy vertex adds no byte
dummy-bytes : (g : Graph) → sequence_bytes (with_dummy_vertex g).verts ≡ sequence_bytes g.verts
unfolding sequence_bytes
dummy-bytes g = by_list g.verts
    (λ q. ap (λ (h : Graph). sequence_bytes h.verts) (sink-nil g q))
    (λ v vs q. by_list vs
    (λ r. let e = q ∙ ap (λ (l : List (List ℕ)). v ∷ l) r in ap (λ (h : Graph). sequence_bytes h.verts) (sink-one g v e) ∙ sym (ap sequence_bytes e))
    (λ u us r. ap (λ (h : Graph). sequence_bytes h.verts) (sink-more g v u us (q ∙ ap (λ (l : List (List ℕ)). v ∷ l) r))))

after-bytes : {e b n : ℕ} (w : Work) (s t : Option ℕ) → Narrow e b n w.graph → sequence_bytes (after_choice w s t).graph.verts ≤ b
unfolding after_choice
after-bytes w none t N = N.few
after-bytes w (some s) none N = N.few
after-bytes w (some s) (some t) N =
    let z = (simplify_graph_full min_tail_suffix_len (remove_paths_not_connected_to_ref w.graph s t)).graph in
    omega (arith, dummy-bytes z, (simplify-narrow (remove_paths_not_connected_to_ref w.graph s t) (between-narrow w.graph s t N)).few)

pub cleanup-bytes : {e b n : ℕ} (g : Graph) → Narrow e b n g → sequence_bytes (cleanup_seq_graph g).graph.verts ≤ b
unfolding cleanup_seq_graph choice_graph
cleanup-bytes g N = after-bytes (before_choice g) _ _ (choice-narrow g N)
