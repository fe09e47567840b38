-- Room, from the limits of a record: of one with at most v vertices, e edges and b bytes every graph of simplification and of cleanup has at most
-- v + b vertices and v + b + e + b / 4 edges.
-- Assumes nothing.
use Prim.Native.Nat.{ℕ, suc, ◌+◌, ◌/◌, ◌≤◌, ◌<◌}
use native.Mathlib.Omega.{arith}
use mathlib.Core.Path.{◌≡◌, ap, ◌∙◌}
use mathlib.Core.Bool.{Bool, true, false}
use mathlib.Core.Option.{Option, none, some}
use mathlib.Core.List.Memᴰ
use mathlib.Core.List.{List, [], ◌∷◌}
use lib.ListN.{length}
use Rattle.defs.specs.Lists.{keep_at, bit}
use Rattle.defs.specs.SeqGraph.{Edge, Graph, node_count, compact_vertices}
use Rattle.defs.specs.Zip.{Work, zip_linear_chains}
use Rattle.defs.specs.Simplify.{sequence_bytes, empty_vertices, simplify_graph_full, min_tail_suffix_len}
use Rattle.defs.specs.Cleanup.{before_choice, remove_singleton_orphan_vertices, reference_source_vertex, reference_sink_vertex, remove_orphans}
use Rattle.defs.specs.Cleanup.{remove_vertices_not_connected_to_ref, choice_graph, remove_paths_not_connected_to_ref, with_dummy_vertex, after_choice}
use Rattle.defs.specs.Cleanup.{cleanup_seq_graph}
use Rattle.laws.proofs.Walks.{by_test}
use Rattle.laws.proofs.ListLaws.{keep_at-yes, keep_at-no}
use Rattle.laws.proofs.Counts.{total, heft, bit_le}
use Rattle.laws.proofs.Fuel.{Good}
use Rattle.laws.proofs.Whole.{by_list}
use Rattle.laws.proofs.Branching.{sum-le, sinks, ends, branching, branching-is, branching-restrict, surplus-branching, sum_ones}
use Rattle.laws.proofs.Measures.{weight, load, bytes-is, weight_is, Tame}
use Rattle.laws.proofs.Bound.{begun, zip-paid, simplify-tame, simplify-fits, Small, Fits, small-fits}
use Rattle.laws.proofs.Cleaned.{restrict-good, orphans-keep, connected-keeps, sink-nil, sink-one, sink-more}

-- a graph known by S, bytes and N, at most e, b and n: what is left when vertices go
pub record Narrow (e b n : ℕ) (g : Graph) : Type 0 where
  pub good : Good g
  pub branches : branching g ≤ e
  pub few : sequence_bytes g.verts ≤ b
  pub size : weight g ≤ n

pub total-keep_at : (f : List ℕ → ℕ) (p : ℕ → Bool) (i : ℕ) (xs : List (List ℕ)) → total f (keep_at p i xs) ≤ total f xs
unfolding total keep_at
total-keep_at f p i [] = omega arith
total-keep_at f p i (x ∷ xs) = by_test (p i)
    (λ t. rw (keep_at-yes p i x xs t) (omega (arith, total-keep_at f p (suc i) xs)))
    (λ t. rw (keep_at-no p i x xs t) (omega (arith, total-keep_at f p (suc i) xs)))

-- what keeps a graph narrow
module _ {e b n : ℕ} where
  pub narrow-small : (g : Graph) → Narrow e b n g → Small n (e + b / 4) g
  unfolding load
  narrow-small g h = record { surplus = omega (arith, surplus-branching g h.good.0.bounded, h.branches, h.few); size = h.size }

  pub narrow-fits : (g : Graph) → Narrow e b n g → Fits n (n + (e + b / 4)) g
  narrow-fits g h = small-fits g h.good (narrow-small g h)

  pub narrow-tame : {g g' : Graph} → Narrow e b n g → Tame g g' → Narrow e b n g'
  narrow-tame h t = record {
    good = t.good;
    branches = omega (arith, h.branches, t.branches);
    few = omega (arith, h.few, t.fewer);
    size = omega (arith, h.size, t.light);
  }

  pub narrow-restrict : (p : ℕ → Bool) (g : Graph) → Narrow e b n g → Narrow e b n (compact_vertices p g)
  narrow-restrict p g h = record {
    good = restrict-good p g h.good;
    branches = omega (arith, h.branches, branching-restrict p g);
    few = omega (arith, h.few, bytes-is g.verts, bytes-is (compact_vertices p g).verts, less length);
    size = omega (arith, h.size, weight_is g, weight_is (compact_vertices p g), less heft);
  }
    where
      less : (f : List ℕ → ℕ) → total f (compact_vertices p g).verts ≤ total f g.verts
      less f = unfold compact_vertices in (total-keep_at f p 0 g.verts)

  -- cleanup, step by step
  pub zip-narrow : (g : Graph) → Narrow e b n g → Narrow e b n (zip_linear_chains (begun g)).graph
  zip-narrow g h = narrow-tame h (zip-paid (begun g) h.good).tame

  pub orphans-narrow : (fuel : ℕ) (g : Graph) → Narrow e b n g → Narrow e b n (remove_orphans fuel g)
  orphans-narrow = orphans-keep (Narrow e b n) narrow-restrict

  pub connected-narrow : (g : Graph) → Narrow e b n g → Narrow e b n (remove_vertices_not_connected_to_ref g)
  connected-narrow = connected-keeps (Narrow e b n) narrow-restrict

  pub simplify-narrow : (g : Graph) → Narrow e b n g → Narrow e b n (simplify_graph_full min_tail_suffix_len g).graph
  simplify-narrow g h = narrow-tame h (simplify-tame min_tail_suffix_len (omega arith) g h.good)

  pub choice-narrow : (g : Graph) → Narrow e b n g → Narrow e b n (choice_graph g)
  unfolding choice_graph before_choice remove_singleton_orphan_vertices
  choice-narrow g h =
      let g₁ = (zip_linear_chains (begun g)).graph in
      let g₂ = remove_orphans (suc (node_count g₁)) g₁ in
      simplify-narrow (remove_vertices_not_connected_to_ref g₂) (connected-narrow g₂ (orphans-narrow (suc (node_count g₁)) g₁ (zip-narrow g h)))

  pub between-narrow : (h : Graph) (s t : ℕ) → Narrow e b n h → Narrow e b n (remove_paths_not_connected_to_ref h s t)
  unfolding remove_paths_not_connected_to_ref
  between-narrow h s t k = narrow-restrict _ h k

-- the empty second vertex
two-fit : {n e : ℕ} → 2 ≤ n → 1 ≤ e → (k : ℕ) (v : List ℕ)
    → Fits n e record { k = k; verts = v ∷ [] ∷ []; edges = record { from = 0; to = 1; support = 0; is_ref = true; capped = false } ∷ [] }
unfolding node_count
two-fit two one k v = record {
  vertices = omega arith;
  edges = omega arith;
  single = (
    record {
      bounded = λ e m. bound e (Memᴰ.eq_of_singleton m);
      rank = λ v. v;
      ranks = λ a b l.
          rise a b (Memᴰ.eq_of_singleton l.1) l.2 l.3;
    },
    (λ l. Memᴰ.not-nil l.1, tt),
  );
}
  where
    bound : (e : Edge) → e ≡ record { from = 0; to = 1; support = 0; is_ref = true; capped = false } → (e.from < 2) × (e.to < 2)
    bound e i = (omega (arith, ap (λ (x : Edge). x.from) i), omega (arith, ap (λ (x : Edge). x.to) i))

    rise : (a b : ℕ) {e : Edge} → e ≡ record { from = 0; to = 1; support = 0; is_ref = true; capped = false } → e.from ≡ a → e.to ≡ b → a < b
    rise a b {e} i p q = omega (arith, ap (λ (x : Edge). x.from) i, ap (λ (x : Edge). x.to) i)

pub with_sink-fits : {n e : ℕ} → 2 ≤ n → 1 ≤ e → (g : Graph) → Fits n e g → Fits n e (with_dummy_vertex g)
with_sink-fits two one g h = by_list g.verts
    (λ t. rw (sink-nil g t) h)
    (λ v vs t. by_list vs
    (λ u. rw (sink-one g v (t ∙ ap (λ l. v ∷ l) u)) (two-fit two one g.k v))
    (λ w ws u. rw (sink-more g v w ws (t ∙ ap (λ l. v ∷ l) u)) h))

module _ {e b n : ℕ} (two : 2 ≤ n) where
  finish-fits : (h : Work) (s t : Option ℕ) → Narrow e b n h.graph → Fits n (n + (e + b / 4)) (after_choice h s t).graph
  unfolding after_choice
  finish-fits h none t k = narrow-fits h.graph k
  finish-fits h (some s) none k = narrow-fits h.graph k
  finish-fits h (some s) (some t) k =
      let between = remove_paths_not_connected_to_ref h.graph s t in
      with_sink-fits two (omega (arith, two)) (simplify_graph_full min_tail_suffix_len between).graph
      (narrow-fits _ (simplify-narrow between (between-narrow h.graph s t k)))

  pub cleanup-fits : (g : Graph) → Narrow e b n g → Fits n (n + (e + b / 4)) (cleanup_seq_graph g).graph
  unfolding cleanup_seq_graph choice_graph
  cleanup-fits g h = finish-fits (before_choice g) (reference_source_vertex (choice_graph g)) (reference_sink_vertex (choice_graph g)) (choice-narrow g h)

-- the limits of a record: v vertices, e edges and b bytes
pub record Limits (v e b : ℕ) (g : Graph) : Type 0 where
  pub vertices : node_count g ≤ v
  pub edges : length g.edges ≤ e
  pub few : sequence_bytes g.verts ≤ b

pub empties-le : (vs : List (List ℕ)) → empty_vertices vs ≤ length vs
unfolding empty_vertices
empties-le [] = omega arith
empties-le ([] ∷ vs) = omega (arith, empties-le vs)
empties-le ((x ∷ xs) ∷ vs) = omega (arith, empties-le vs)

pub sinks-le : (g : Graph) → sinks g ≤ node_count g
unfolding sinks
sinks-le g = omega (arith, sum-le (λ v. bit (ends g v)) (λ _. 1) (node_count g) (λ v _. bit_le (ends g v)), sum_ones (node_count g))

pub limits-narrow : {v e b : ℕ} (g : Graph) → Good g → Limits v e b g → Narrow e b (v + b) g
unfolding weight node_count
limits-narrow g h l = record {
  good = h;
  branches = omega (arith, branching-is g h.0.bounded, sinks-le g, l.edges);
  few = l.few;
  size = omega (arith, empties-le g.verts, l.vertices, l.few);
}

-- both calls, from the limits
module _ {v e b : ℕ} (g : Graph) (h : Good g) (l : Limits v e b g) where
  pub simplify-room : Fits (v + b) (v + b + (e + b / 4)) (simplify_graph_full min_tail_suffix_len g).graph
  simplify-room = simplify-fits min_tail_suffix_len (omega arith) g h (narrow-small g (limits-narrow g h l))

  pub cleanup-room : 2 ≤ v + b → Fits (v + b) (v + b + (e + b / 4)) (cleanup_seq_graph g).graph
  cleanup-room two = cleanup-fits two g (limits-narrow g h l)
