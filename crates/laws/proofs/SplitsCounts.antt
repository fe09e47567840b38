-- A split adds a vertex at least, and raises neither the weight nor edges less vertices.
-- Assumes nothing.
use Prim.Native.Nat.{ℕ, suc, ◌+◌, ◌≤◌, ◌<◌}
use native.Mathlib.Omega.{arith}
use mathlib.Core.Path.{◌≡◌, refl, ap, ◌∙◌}
use mathlib.Core.Bool.{true, false, not, ◌&&◌}
use mathlib.Core.Option.{none, some}
use mathlib.Core.List.Memᴰ
use mathlib.Core.List.{List, [], ◌∷◌, ◌++◌, map, Memᴰ}
use lib.Dec.{eqb, ltb}
use lib.ListN.{length, length-append, length-map}
use borrow.Author.Tests.{eqb-true, eqb-false, not-true}
use Rattle.defs.specs.Lists.{all_of, elem_of, common_suffix}
use Rattle.defs.specs.SeqGraph.{Edge, Graph, node_count, vertex_sequence, incoming_nodes, outgoing_nodes, edges_into, edges_from, in_degree, EdgeData}
use Rattle.defs.specs.SeqGraph.{out_degree, Change, apply_change}
use Rattle.defs.specs.Rewrites.{splits_suffix, split_suffix, split_change, process_edge, redirected_to, non_empty, without_suffix}
use Rattle.defs.specs.Rewrites.{suffix_and_prefix, suffix_and_prefix_edges, split_vertices, split_edges, would_eliminate_ref_source, is_split}
use Rattle.defs.specs.Rewrites.{try_split_common_suffix}
use Rattle.defs.specs.Strings.{HasEdge}
use Rattle.laws.proofs.Walks.{by_test}
use Rattle.laws.proofs.ListLaws.{clash, given-some, and_split}
use Rattle.laws.proofs.Edges.{all_of-mem, only_out_lem, of-mem-ins}
use Rattle.laws.proofs.Counts.{total, total-le, total-same, total-append, total-one, Distinct, Single, heft, length-heft, heft-full}
use Rattle.laws.proofs.Changes.{Local, weight-change, order-change, edges-change, single-change}
use Rattle.laws.proofs.SharedLaws.{shared_suffix-each}
use Rattle.laws.proofs.Sound.{Sound}
use Rattle.laws.proofs.MergeCounts.{distinct-ins}
use Rattle.laws.proofs.SplitCounts.{places-split}
use Rattle.laws.proofs.Splits as P

-- the new vertices and edges of a list of predecessors
module _ (g : Graph) (bottom : ℕ) (suffix : List ℕ) where
  module _ (f : List ℕ → ℕ) (full : (l : List ℕ) → non_empty l ≡ true → f l ≡ length l) (some-suffix : non_empty suffix ≡ true) where
    one-weight : (l : List ℕ) → total f (suffix_and_prefix suffix l) ≡ length suffix + length l
    unfolding suffix_and_prefix total non_empty
    one-weight [] = omega (arith, full suffix some-suffix)
    one-weight (x ∷ l) = omega (arith, full suffix some-suffix, full (x ∷ l) refl)

    all-weight : (ms : List ℕ) → total f (split_vertices g suffix ms) ≡ total (λ m. length suffix + length (P.remaining g bottom suffix m)) ms
    unfolding split_vertices total
    all-weight [] = refl
    all-weight (m ∷ ms) = omega (
      arith,
      total-append f (suffix_and_prefix suffix (P.remaining g bottom suffix m)) (split_vertices g suffix ms),
      one-weight (P.remaining g bottom suffix m),
      all-weight ms,
    )

  one-count : (l : List ℕ) → 1 ≤ length (suffix_and_prefix suffix l)
  unfolding suffix_and_prefix
  one-count [] = omega arith
  one-count (x ∷ l) = omega arith

  two-count : (l : List ℕ) → (length l ≡ 0 → ⊥) → 2 ≤ length (suffix_and_prefix suffix l)
  unfolding suffix_and_prefix
  two-count [] h = absurd (h refl)
  two-count (x ∷ l) h = omega arith

  all-count : (ms : List ℕ) → length ms ≤ length (split_vertices g suffix ms)
  unfolding split_vertices
  all-count [] = omega arith
  all-count (m ∷ ms) = omega (arith, length-append (suffix_and_prefix suffix (P.remaining g bottom suffix m)) (split_vertices g suffix ms), one-count (P.remaining g bottom suffix m), all-count ms)

  -- not all of them are just the suffix
  more-count : (ms : List ℕ) → ((m : ℕ) → Memᴰ m ms → length (vertex_sequence g m) ≡ length (P.remaining g bottom suffix m) + length suffix)
      → all_of (λ p. eqb (length (vertex_sequence g p)) (length suffix)) ms ≡ false
      → length ms < length (split_vertices g suffix ms)
  unfolding split_vertices all_of
  more-count [] h t = clash refl t
  more-count (m ∷ ms) h t = by_test (eqb (length (vertex_sequence g m)) (length suffix))
      (λ e. omega (
        arith,
        length-append (suffix_and_prefix suffix (P.remaining g bottom suffix m)) (split_vertices g suffix ms),
        one-count (P.remaining g bottom suffix m),
        more-count ms (λ x k. h x (Memᴰ.tail k)) (rw (e, all_of) at t),
      ))
      (λ e. omega (
        arith,
        length-append (suffix_and_prefix suffix (P.remaining g bottom suffix m)) (split_vertices g suffix ms),
        all-count ms,
        two-count (P.remaining g bottom suffix m) (λ z. eqb-false (length (vertex_sequence g m)) (length suffix) e (omega (arith, h m (Memᴰ.head refl)))),
      ))

  one-edges : (n : ℕ) (l : List ℕ) (to_mid : List Edge) (out : EdgeData) → length (suffix_and_prefix_edges bottom n l to_mid out)
      ≡ length (suffix_and_prefix suffix l) + length to_mid
  unfolding suffix_and_prefix_edges suffix_and_prefix
  one-edges n [] to_mid out = omega (arith, length-map to_mid (redirected_to n))
  one-edges n (x ∷ l) to_mid out = omega (arith, length-map to_mid (redirected_to (suc n)))

  all_edges : (n : ℕ) (ms : List ℕ) → length (split_edges g bottom suffix n ms) ≡ length (split_vertices g suffix ms) + total (in_degree g) ms
  unfolding split_edges split_vertices total in_degree
  all_edges n [] = refl
  all_edges n (m ∷ ms) =
      let out = process_edge g m (edges_from g m) in
      omega (
        arith,
        length-append (suffix_and_prefix_edges bottom n (P.remaining g bottom suffix m) (edges_into g m) out)
            (split_edges g bottom suffix (length (suffix_and_prefix suffix (P.remaining g bottom suffix m)) + n) ms),
        one-edges n (P.remaining g bottom suffix m) (edges_into g m) out,
        all_edges (length (suffix_and_prefix suffix (P.remaining g bottom suffix m)) + n) ms,
        length-append (suffix_and_prefix suffix (P.remaining g bottom suffix m)) (split_vertices g suffix ms),
      )

module _ (g g' : Graph) (bottom : ℕ) (sound : Sound g) (once : Single g.edges) (did : try_split_common_suffix g bottom ≡ some g') where
  abbrev prevs : List ℕ
  prevs = incoming_nodes g bottom

  abbrev suffix : List ℕ
  suffix = common_suffix (map (vertex_sequence g) prevs)

  abbrev pub c : Change
  c = record { verts = split_vertices g suffix prevs; edges = split_edges g bottom suffix (node_count g) prevs; gone = prevs }

  pub parts : (is_split g bottom prevs suffix ≡ true) × (apply_change g c ≡ g')
  unfolding try_split_common_suffix splits_suffix split_suffix split_change
  parts = given-some _ _ g' did

  tests : ((m : ℕ) → Memᴰ m prevs → out_degree g m ≡ 1) × (non_empty suffix ≡ true)
      × (all_of (λ p. eqb (length (vertex_sequence g p)) (length suffix)) prevs ≡ false)
  unfolding is_split
  tests =
      let a = and_split (ltb 1 (length prevs)) _ parts.0 in
      let d = and_split (all_of (λ p. not (eqb p bottom) && (eqb (out_degree g p) 1 && not (elem_of p (outgoing_nodes g bottom)))) prevs) _ a.1 in
      let e = and_split (non_empty suffix) _ d.1 in
      let f = and_split (not (would_eliminate_ref_source g (length suffix) prevs)) _ e.1 in (
        λ m k.
            let x = and_split (not (eqb m bottom)) _ (all_of-mem (λ p. not (eqb p bottom)
            && (eqb (out_degree g p) 1 && not (elem_of p (outgoing_nodes g bottom)))) prevs d.0 k) in
            let y = and_split (eqb (out_degree g m) 1) _ x.1 in
            eqb-true _ _ y.0,
        e.0,
        not-true _ f.1,
      )

  pub only_out : (m w : ℕ) → Memᴰ m prevs → HasEdge g m w → w ≡ bottom
  only_out m w k l = only_out_lem g m w bottom (tests.0 m k) l (of-mem-ins g m bottom k)

  pub cuts : (m : ℕ) → Memᴰ m prevs → vertex_sequence g m ≡ without_suffix g (length suffix) m ++ suffix
  cuts m k = P.cut-end g suffix m (shared_suffix-each (map (vertex_sequence g) prevs) (Memᴰ.map (vertex_sequence g) k))

  lengths : (m : ℕ) → Memᴰ m prevs → length (vertex_sequence g m) ≡ length (P.remaining g bottom suffix m) + length suffix
  lengths m k = ap length (cuts m k) ∙ length-append (P.remaining g bottom suffix m) suffix

  pub local : Local g c
  local = P.local g sound.bounded sound.rank sound.ranks bottom suffix only_out cuts

  pub once-prevs : Distinct prevs
  unfolding incoming_nodes edges_into
  once-prevs = distinct-ins g.edges bottom once

  pub split-weight : (f : List ℕ → ℕ) → ((l : List ℕ) → non_empty l ≡ true → f l ≡ length l) → ((l : List ℕ) → length l ≤ f l)
      → total f g'.verts ≤ total f g.verts
  split-weight f full more = rw (← parts.1)
      (omega (
        arith,
        weight-change g sound.bounded c local f once-prevs,
        all-weight g bottom suffix f full tests.1 prevs,
        total-le (λ m. length suffix + length (P.remaining g bottom suffix m)) (λ m. f (vertex_sequence g m)) prevs (λ m k.
            omega (arith, lengths m k, more (vertex_sequence g m))),
      ))

  pub split-heft : total heft g'.verts ≤ total heft g.verts
  split-heft = split-weight heft heft-full length-heft

  pub split-bytes : total length g'.verts ≤ total length g.verts
  split-bytes = split-weight length (λ l _. refl) (λ l. omega arith)

  order_is : node_count g' + length prevs ≡ node_count g + length (split_vertices g suffix prevs)
  order_is = rw (← parts.1) (order-change g sound.bounded c local once-prevs)

  pub split-order : node_count g < node_count g'
  split-order = omega (arith, order_is, more-count g bottom suffix prevs lengths tests.2)

  pub split-surplus : length g'.edges + node_count g ≤ length g.edges + node_count g'
  split-surplus =
      omega (
        arith,
        order_is,
        ap (λ (x : Graph). length x.edges) parts.1,
        edges-change g sound.bounded c,
        all_edges g bottom suffix (node_count g) prevs,
        places-split true true g 0 none [] none [] [] prevs once-prevs (λ e m a b.
            let i = only_out e.from e.to a (e, m, refl, refl) in
            let j = of-mem-ins g e.to bottom b in
            omega (arith, sound.ranks e.to bottom j, ap sound.rank i)),
        total-same (out_degree g) (λ _. 1) prevs tests.0,
        total-one prevs,
      )

  pub split-single : Single g'.edges
  split-single = rw (← parts.1) (single-change g sound.bounded c once)
