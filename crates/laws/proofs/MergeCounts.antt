-- A merge keeps the invariants, and raises neither edges less vertices nor the bytes.
-- Assumes nothing.
use Prim.Native.Nat.{ℕ, zero, suc, ◌+◌, ◌≤◌, ◌<◌}
use native.Mathlib.Omega.{arith}
use native.Mathlib.Nat.{zero-add, add-zero}
use mathlib.Core.Path.{◌≡◌, refl, sym, ap, ◌∙◌, subst}
use mathlib.Core.Logic.{◌⊎◌, inl, inr, ⊎_elim}
use mathlib.Core.Bool.{Bool, true, false, cond, ◌&&◌, true≢false}
use mathlib.Core.List.Memᴰ
use mathlib.Core.List.{List, [], ◌∷◌, ◌++◌, map, Memᴰ}
use lib.Dec.{eqb, ltb}
use lib.ListN.{length, get_or, length-append, length-map, get_or-append}
use borrow.Author.Tests.{eqb-true, eqb-false, eq-eqb, ne_eqb}
use Rattle.defs.specs.Lists.{keep_if, keep_at, bit, head_or, concat, rank, up_from}
use Rattle.defs.specs.SeqGraph.{Edge, Graph, node_count, vertex_sequence, edges_into, edges_from, incoming_nodes, keeps, Change, with_additions}
use Rattle.defs.specs.SeqGraph.{apply_change, remove_vertices_by_id, compact_vertices, add_or_update_edges, remap_edge}
use Rattle.defs.specs.Rewrites.{is_merge, merge_change, redirected_to, redirected_from}
use Rattle.defs.specs.Strings.{HasEdge}
use Rattle.laws.proofs.Walks.{by_test}
use Rattle.laws.proofs.ListLaws.{clash, and_split, by_order, of-keep_if}
use Rattle.laws.proofs.Nets.{Bounded, Ranks}
use Rattle.laws.proofs.Edges.{Linked, keeps-not, not-keeps, keeps-other, keeps-gone, mem-ins, of-mem-ins, order-grown, seq-grown-old}
use Rattle.laws.proofs.Counts
use Rattle.laws.proofs.Counts.{total, total-le, total-add, total-append, total-one, length-keep_if, Distinct, total_kept, Single}
use Rattle.laws.proofs.Counts.{single-raise_all, single-renumber, count-raise_all, length-flat, times_none, times-le, bit_le}
use Rattle.laws.proofs.Merge as M

-- no vertex is twice before another
pub distinct-ins : (es : List Edge) (v : ℕ) → Single es → Distinct (map (λ (e : Edge). e.from) (keep_if (λ e. eqb e.to v) es))
unfolding keep_if
distinct-ins [] v h = tt
distinct-ins (e ∷ es) v h =
    by_test (eqb e.to v)
    (λ t. rw t (
      λ m. let k = Memᴰ.of_map (λ (e : Edge). e.from) _ m in
          let j = of-keep_if (λ (e : Edge). eqb e.to v) es k.1 in
          h.0 (k.0, j.0, k.2, eqb-true _ _ j.1 ∙ sym (eqb-true _ _ t)),
      distinct-ins es v h.1,
    ))
    (λ t. rw t (distinct-ins es v h.1))

pub and_no : (a b : Bool) → b ≡ false → bit (a && b) ≡ 0
unfolding bit
and_no true b t = rw t
and_no false b t = refl

pub mem-head : (l : List ℕ) → 0 < length l → Memᴰ (head_or 0 l) l
unfolding head_or
mem-head [] h = absurd (omega arith)
mem-head (x ∷ xs) h = Memᴰ.head refl

total_head : (f : ℕ → ℕ) (l : List ℕ) → 0 < length l → f (head_or 0 l) ≤ total f l
unfolding head_or total
total_head f [] h = absurd (omega arith)
total_head f (x ∷ xs) h = omega arith

module _ (g : Graph) (bottom : ℕ) (bounded : Bounded g) (r : ℕ → ℕ) (ranks : Ranks g r) (inside : bottom < node_count g) (ok :
    is_merge g (incoming_nodes g bottom) ≡ true) (once : Single g.edges) where
  abbrev prevs : List ℕ
  prevs = incoming_nodes g bottom

  abbrev pub c : Change
  c = merge_change g bottom prevs

  abbrev G : Graph
  G = with_additions c g

  abbrev keep : ℕ → Bool
  keep = keeps (bottom ∷ prevs)

  pub single-merge : Single (apply_change g c).edges
  unfolding apply_change remove_vertices_by_id compact_vertices with_additions merge_change
  single-merge = single-renumber keep _ (single-raise_all c.edges g.edges once)

  distinct-prevs : Distinct prevs
  unfolding incoming_nodes edges_into
  distinct-prevs = distinct-ins g.edges bottom once

  -- each edge stays, or leads into a predecessor or into the bottom, or leaves the bottom
  places : Edge → ℕ
  places e = bit (keep e.from && keep e.to) + (total (λ v. bit (eqb e.to v)) prevs + (bit (eqb e.from bottom) + bit (eqb e.to bottom)))

  one_place : (e : Edge) → Memᴰ e g.edges → places e ≤ 1
  unfolding places bit
  one_place e m =
      let l : HasEdge g e.from e.to = (e, m, refl, refl) in
      by_test (eqb e.to bottom)
      (λ t. let i = eqb-true e.to bottom t in
      rw (t, ne_eqb e.from bottom (λ j. omega (arith, ranks e.from e.to l, ap r i, ap r j)))
      (omega (
        arith,
        and_no (keep e.from) (keep e.to) (keeps-gone (bottom ∷ prevs) e.to (Memᴰ.head i)),
        times_none e.to prevs (λ n. M.not-bottom g bottom bounded r ranks inside ok (rw i at n)),
      )))
      (λ t. by_test (eqb e.from bottom)
      (λ t₁. let i = eqb-true e.from bottom t₁ in
      rw (t, t₁, keeps-gone (bottom ∷ prevs) e.from (Memᴰ.head i))
      (omega (arith, times_none e.to prevs (λ n. omega (arith, ranks e.from e.to l, ap r i, ranks e.to bottom (of-mem-ins g e.to bottom n))))))
      (λ t₁. by_test (keep e.to)
      (λ t₂. rw (t, t₁) (omega (
        arith,
        bit_le (keep e.from && keep e.to),
        times_none e.to prevs (λ n. keeps-not (bottom ∷ prevs) e.to t₂ (Memᴰ.tail n)),
      )))
      (λ t₂. rw (t, t₁) (omega (arith, and_no (keep e.from) (keep e.to) t₂, times-le e.to prevs distinct-prevs)))))

  abbrev stays : Edge → Bool
  stays e = keep e.from && keep e.to

  all-places : length (keep_if stays g.edges) + (length (concat (map (edges_into g) prevs)) + (length (edges_from g bottom) + length prevs)) ≤ length g.edges
  unfolding places incoming_nodes edges_into edges_from
  all-places =
      let es = g.edges in
      let f₁ : Edge → ℕ = λ e. bit (stays e) in
      let f₂ : Edge → ℕ = λ e. total (λ v. bit (eqb e.to v)) prevs in
      let f₃ : Edge → ℕ = λ e. bit (eqb e.from bottom) in
      let f₄ : Edge → ℕ = λ e. bit (eqb e.to bottom) in
      omega (
        arith,
        total-le places (λ _. 1) es one_place,
        total-one es,
        total-add f₁ (λ e. f₂ e + (f₃ e + f₄ e)) es,
        total-add f₂ (λ e. f₃ e + f₄ e) es,
        total-add f₃ f₄ es,
        length-keep_if stays es,
        length-flat (λ v (e : Edge). eqb e.to v) es prevs,
        length-keep_if (λ (e : Edge). eqb e.from bottom) es,
        length-keep_if (λ (e : Edge). eqb e.to bottom) es,
        length-map (edges_into g bottom) (λ (e : Edge). e.from),
      )

  pub edges-merge : length (apply_change g c).edges + length prevs ≤ length g.edges
  unfolding apply_change remove_vertices_by_id compact_vertices with_additions merge_change
  edges-merge =
      let ns = c.edges in
      omega (
        arith,
        all-places,
        length-map (keep_if stays (add_or_update_edges ns g.edges)) (remap_edge keep),
        count-raise_all keep ns g.edges,
        length-append (map (redirected_to (node_count g)) (concat (map (edges_into g) prevs))) (map (redirected_from (node_count g)) (edges_from g bottom)),
        length-map (concat (map (edges_into g) prevs)) (redirected_to (node_count g)),
        length-map (edges_from g bottom) (redirected_from (node_count g)),
      )

  pub distinct-gone : Distinct (bottom ∷ prevs)
  distinct-gone = (M.not-bottom g bottom bounded r ranks inside ok, distinct-prevs)

  gone-below : (v : ℕ) → Memᴰ v (bottom ∷ prevs) → v < length G.verts
  unfolding with_additions node_count
  gone-below v m =
      let l : v < length g.verts = ⊎_elim (λ (i : v ≡ bottom). rw i inside) (λ n. let h = of-mem-ins g v bottom n in
      rw h.2 at (bounded h.0 h.1).0) (Memᴰ.cases_cons m) in
      omega (arith, length-append g.verts c.verts)

  head-old : head_or 0 prevs < node_count g
  head-old = let h = of-mem-ins g (head_or 0 prevs) bottom (mem-head prevs (M.ok-parts g bottom bounded r ranks inside ok).0) in
      rw h.2 at (bounded h.0 h.1).0

  -- what a vertex weighs, by any weight under which a joined sequence weighs no more than its parts
  module _ (f : List ℕ → ℕ) (sub : (a b : List ℕ) → f (a ++ b) ≤ f a + f b) where
    pub weight-merge : total f (apply_change g c).verts ≤ total f g.verts
    unfolding apply_change remove_vertices_by_id compact_vertices with_additions merge_change total vertex_sequence
    weight-merge =
        omega (
          arith,
          total_kept f [] G.verts (bottom ∷ prevs) distinct-gone gone-below,
          total-append f g.verts c.verts,
          sub (vertex_sequence g (head_or 0 prevs)) (vertex_sequence g bottom),
          ap f (seq-grown-old g c bottom inside),
          ap f (seq-grown-old g c (head_or 0 prevs) head-old),
          total_head (λ v. f (vertex_sequence G v)) prevs (M.ok-parts g bottom bounded r ranks inside ok).0,
        )

  pub order-merge : node_count (apply_change g c) + length prevs ≡ node_count g
  unfolding apply_change remove_vertices_by_id compact_vertices with_additions merge_change node_count total
  order-merge =
      omega (
        arith,
        total_kept (λ _. 1) [] G.verts (bottom ∷ prevs) distinct-gone gone-below,
        total-one (g.verts ++ c.verts),
        length-append g.verts c.verts,
        total-one prevs,
        total-one (keep_at keep 0 G.verts),
      )

  pub surplus-merge : length (apply_change g c).edges + node_count g ≤ length g.edges + node_count (apply_change g c)
  surplus-merge = omega (arith, order-merge, edges-merge)
