-- `clean_non_ref_paths` keeps a graph in its room. Assumes nothing.
use mathlib.Core.Bool.{Bool, not, ◌||◌}
use mathlib.Core.List.{List, [], ◌∷◌}
use Prim.Native.Nat.{ℕ, suc, ◌-◌, ◌≤◌}
use native.Mathlib.Omega.{arith}
use lib.ListN.{length}
use Rattle.defs.specs.Lists.{keep_if}
use Rattle.defs.specs.SeqGraph.{Edge, Graph, node_count, compact_vertices}
use Rattle.defs.specs.Cleanup.{reference_source_vertex, reference_sink_vertex, remove_singleton_orphan_vertices, leads_to_source, leads_from_sink}
use Rattle.defs.specs.Cleanup.{without_non_ref_edges, clean_between, clean_non_ref_paths}
use Rattle.laws.proofs.Walks.{by_test}
use Rattle.laws.proofs.ListLaws.{of-keep_if, keep_if-yes, keep_if-no}
use Rattle.laws.proofs.Counts.{Single}
use Rattle.laws.proofs.Fuel.{Good}
use Rattle.laws.proofs.Whole.{by_option}
use Rattle.laws.proofs.Cleaned.{orphans-keep}

-- ---- edges go

single-keep : (q : Edge → Bool) (l : List Edge) → Single l → Single (keep_if q l)
unfolding keep_if
single-keep q [] h = tt
single-keep q (e ∷ l) h = by_test (q e)
    (λ t. rw (keep_if-yes q e l t) (λ k. h.0 (k.0, (of-keep_if q l k.1).0, k.2, k.3), single-keep q l h.1))
    (λ t. rw (keep_if-no q e l t) (single-keep q l h.1))

fewer : (p q : Edge → Bool) (l : List Edge) → length (keep_if p (keep_if q l)) ≤ length (keep_if p l)
unfolding keep_if
fewer p q [] = omega arith
fewer p q (e ∷ l) = by_test (q e)
    (λ t. rw (keep_if-yes q e l t) (by_test (p e)
    (λ u. rw (keep_if-yes p e l u, keep_if-yes p e (keep_if q l) u) (omega (arith, fewer p q l)))
    (λ u. rw (keep_if-no p e l u, keep_if-no p e (keep_if q l) u) (fewer p q l))))
    (λ t. rw (keep_if-no q e l t) (by_test (p e)
    (λ u. rw (keep_if-yes p e l u) (omega (arith, fewer p q l)))
    (λ u. rw (keep_if-no p e l u) (fewer p q l))))

module _ (q : Edge → Bool) (g : Graph) where
  abbrev pub thinned : Graph
  thinned = record { k = g.k; verts = g.verts; edges = keep_if q g.edges }

  pub thinned-good : Good g → Good thinned
  unfolding node_count
  thinned-good (s, o) = (
    record {
      bounded = λ e m. s.bounded e (of-keep_if q g.edges m).0;
      rank = s.rank;
      ranks = λ a b l. s.ranks a b (l.0, (of-keep_if q g.edges l.1).0, l.2, l.3);
    },
    single-keep q g.edges o,
  )

-- ---- the call

-- what the removal of edges and of vertices keeps
module _ (P : Graph → Type 0) (thin : (q : Edge → Bool) (g : Graph) → P g → P (thinned q g)) (restrict : (p : ℕ → Bool) (g : Graph) → P g
    → P (compact_vertices p g)) where
  between-keeps : (g : Graph) (s t : ℕ) → P g → P (remove_singleton_orphan_vertices (without_non_ref_edges g s t))
  unfolding remove_singleton_orphan_vertices without_non_ref_edges
  between-keeps g s t h = orphans-keep P restrict (suc (node_count (without_non_ref_edges g s t))) (without_non_ref_edges g s t) (thin
      (λ (e : Edge). not (leads_to_source g s e || leads_from_sink g s t e)) g h)

  pub clean-keeps : (g : Graph) → P g → P (clean_non_ref_paths g)
  unfolding clean_non_ref_paths clean_between
  clean-keeps g h = by_option (reference_source_vertex g)
      (λ a. rw (a, clean_between) h)
      (λ s a. by_option (reference_sink_vertex g)
      (λ b. rw (a, b, clean_between) h)
      (λ t b. rw (a, b, clean_between) (between-keeps g s t h)))
