-- Diamonds and tails raise neither the bytes nor edges less vertices plus a quarter of the bytes.
-- Assumes nothing.
use Prim.Native.Nat.{ℕ, zero, suc, ◌+◌, ◌-◌, ◌/◌, ◌≤◌, ◌<◌}
use native.Mathlib.Omega.{arith}
use mathlib.Core.Path.{◌≡◌, refl, sym, ap, ◌∙◌}
use mathlib.Core.Logic.{◌⊎◌, inl, inr, ⊎_elim}
use mathlib.Core.Bool.{Bool, true, false, cond, not, ◌&&◌, ◌||◌}
use mathlib.Core.Option.{Option, none, some}
use mathlib.Core.List.Memᴰ
use mathlib.Core.List.{List, [], ◌∷◌, ◌++◌, map, append_assoc, append-nil, Memᴰ}
use lib.Dec.{eqb, ltb}
use lib.ListN.{length, get_or, length-append, length-map}
use borrow.Author.Tests.{eqb-true, eqb-false, eq-eqb, ne_eqb}
use Rattle.defs.specs.Lists.{keep_if, bit, concat}
use Rattle.defs.specs.SeqGraph.{Edge, Graph, node_count, vertex_sequence, has_ends, add_or_update_edge, add_or_update_edges, keeps, Change}
use Rattle.defs.specs.SeqGraph.{with_additions, apply_change, remove_vertices_by_id, compact_vertices, remap_edge, in_degree, out_degree, edges_into}
use Rattle.defs.specs.SeqGraph.{EdgeData, edge_data, new_edge, edges_from, outgoing_nodes}
use Rattle.defs.specs.Rewrites.{MidPlan, has_remaining, non_empty, prefix_to_suffix, only_if, is_none, edges_to_middles, edges_from_middles}
use Rattle.defs.specs.Rewrites.{new_edge_if, split_and_update_with}
use Rattle.defs.specs.Strings.{HasEdge}
use Rattle.laws.proofs.Walks.{by_test}
use Rattle.laws.proofs.ListLaws.{clash, and_split, of-keep_if, keep_if-yes, keep_if-no}
use Rattle.laws.proofs.Edges.{Linked, linked-cases, linked-tail, raise-yes, raise-no, keeps-not, not-keeps, keeps-gone, raise_all-adds}
use Rattle.laws.proofs.Counts
use Rattle.laws.proofs.Counts.{total, total-le, total-same, total-add, total-append, total-one, total-zero, length-keep_if, Distinct}
use Rattle.laws.proofs.Counts.{Single, length-flat, times_none, times-le, bit_le, count-raise_all}
use Rattle.laws.proofs.MergeCounts.{and_no}
use Rattle.laws.proofs.SplitWith as S

-- sums over mapped and filtered lists
pub total-map : {A B : Type 0} (f : B → ℕ) (h : A → B) (l : List A) → total f (map h l) ≡ total (λ x. f (h x)) l
unfolding total
total-map f h [] = refl
total-map f h (x ∷ l) = ap (λ z. f (h x) + z) (total-map f h l)

pub total-keep_if : {A : Type 0} (f : A → ℕ) (p : A → Bool) (l : List A) → ((x : A) → p x ≡ false → f x ≡ 0) → total f (keep_if p l) ≡ total f l
unfolding total keep_if
total-keep_if f p [] h = refl
total-keep_if f p (x ∷ l) h = by_test (p x)
    (λ t. rw t (ap (λ z. f x + z) (total-keep_if f p l h)))
    (λ t. rw t (omega (arith, total-keep_if f p l h, h x t)))

pub length-flat-map : {A B : Type 0} (h : B → List A) (l : List B) → length (concat (map h l)) ≡ total (λ x. length (h x)) l
unfolding total concat
length-flat-map h [] = refl
length-flat-map h (x ∷ l) = length-append (h x) (concat (map h l)) ∙ ap (λ z. length (h x) + z) (length-flat-map h l)

-- x for each of a list of one or more, where x is at least c
pub total-const : {A : Type 0} (x : ℕ) (l : List A) (c : ℕ) → c ≤ x → 0 < length l → x + total (λ _. c) l ≤ total (λ _. x) l + c
unfolding total
total-const x [] c h n = absurd (omega arith)
total-const x (y ∷ l) c h n = omega (arith, total-le (λ _. c) (λ _. x) l (λ _ _. h))

-- an edge that is there already adds none
pub raise_all-append : (xs ys es : List Edge) → add_or_update_edges (xs ++ ys) es ≡ add_or_update_edges ys (add_or_update_edges xs es)
unfolding add_or_update_edges
raise_all-append [] ys es = refl
raise_all-append (x ∷ xs) ys es = raise_all-append xs ys (add_or_update_edge x.from x.to (edge_data x) es)

module _ (p : ℕ → Bool) where
  abbrev both : Edge → Bool
  both e = p e.from && p e.to

  sum-known : (u v : ℕ) (d : EdgeData) (es : List Edge) → Linked es u v → total (λ e. bit (both e)) (add_or_update_edge u v d es) ≡ total (λ e. bit (both e)) es
  unfolding total new_edge
  sum-known u v d [] l = absurd (Memᴰ.not-nil l.1)
  sum-known u v d (e ∷ es) l = by_test (has_ends u v e)
      (λ t. rw (raise-yes u v d e es t))
      (λ t. rw (raise-no u v d e es t)
      (linked-cases e es u v l (λ a b. clash (Counts.ends_join u v e (sym a) (sym b)) t) (λ k. ap (λ z. bit (both e) + z) (sum-known u v d es k))))

  pub count-known : (u v : ℕ) (b : Bool) (o : Option EdgeData) (es : List Edge) → ((l : EdgeData) → o ≡ some l → Linked es u v)
      → length (keep_if both (add_or_update_edges (only_if b (new_edge_if u v o)) es)) ≡ length (keep_if both es)
  unfolding only_if new_edge_if add_or_update_edges new_edge edge_data
  count-known u v b none es h = by_test b (λ t. rw t) (λ t. rw t)
  count-known u v b (some l) es h = by_test b
      (λ t. rw t (length-keep_if both (add_or_update_edge u v l es)
      ∙ (sum-known u v l es (h l refl) ∙ sym (length-keep_if both es))))
      (λ t. rw t)

unfoldable pub loads : Option EdgeData → ℕ
loads none = 0
loads (some l) = 1

pub length-to_middles : (t n : ℕ) (ps : List MidPlan) → length (edges_to_middles t n ps) ≡ length ps
unfolding edges_to_middles
length-to_middles t n [] = refl
length-to_middles t n (p ∷ ps) = ap suc (length-to_middles t (suc n) ps)

pub length-from_middles : (n b : ℕ) (ps : List MidPlan) → length (edges_from_middles n b ps) ≡ length ps
unfolding edges_from_middles
length-from_middles n b [] = refl
length-from_middles n b (p ∷ ps) = ap suc (length-from_middles (suc n) b ps)

length-link_maybe : (u v : ℕ) (o : Option EdgeData) → length (new_edge_if u v o) ≡ loads o
unfolding new_edge_if loads
length-link_maybe u v none = refl
length-link_maybe u v (some l) = refl

pub length-only : (b : Bool) (e : Edge) → length (only_if b (e ∷ [])) ≡ bit b
unfolding only_if bit
length-only true e = refl
length-only false e = refl

-- the new edges that are kept
module _ (P S' : Bool) (g : Graph) (top : ℕ) (bottom : Option ℕ) (lefts : List MidPlan) (gone : Option EdgeData) (prefix suffix mids : List ℕ) where
  abbrev c : Change
  c = split_and_update_with P S' (node_count g) top bottom lefts gone prefix suffix mids

  abbrev stays : Edge → Bool
  stays e = keeps mids e.from && keeps mids e.to

  abbrev n : ℕ
  n = node_count g

  abbrev e₁ : List Edge
  e₁ = S.e₁ P S' n top bottom lefts gone prefix suffix mids

  abbrev e₂ : List Edge
  e₂ = S.e₂ P S' n top bottom lefts gone prefix suffix mids

  abbrev e₃ : List Edge
  e₃ = S.e₃ P S' n top bottom lefts gone prefix suffix mids

  abbrev e₄ : List Edge
  e₄ = S.e₄ P S' n top bottom lefts gone prefix suffix mids

  abbrev e₅ : List Edge
  e₅ = S.e₅ P S' n top bottom lefts gone prefix suffix mids

  abbrev e₆ : List Edge
  e₆ = S.e₆ P S' n top bottom lefts gone prefix suffix mids

  abbrev t : ℕ
  t = S.t P S' n top bottom lefts gone prefix suffix mids

  abbrev b : ℕ
  b = S.b' P S' n top bottom lefts gone prefix suffix mids

  abbrev but_last : List Edge
  but_last = e₁ ++ (e₂ ++ (e₃ ++ (e₄ ++ e₅)))

  regroup : c.edges ≡ but_last ++ e₆
  unfolding split_and_update_with
  regroup = simp append_assoc

  length-but-last : length but_last ≡ bit P + (bit (S' && not (is_none bottom)) + (length lefts + (loads gone + length lefts)))
  length-but-last =
      omega (
        arith,
        length-append e₁ (e₂ ++ (e₃ ++ (e₄ ++ e₅))),
        length-append e₂ (e₃ ++ (e₄ ++ e₅)),
        length-append e₃ (e₄ ++ e₅),
        length-append e₄ e₅,
        length-only P (S.first P S' n top bottom lefts gone prefix suffix mids),
        length-only (S' && not (is_none bottom)) (S.last P S' n top bottom lefts gone prefix suffix mids),
        length-to_middles t (S.mv P S' n top bottom lefts gone prefix suffix mids) lefts,
        length-link_maybe t b gone,
        length-from_middles (S.mv P S' n top bottom lefts gone prefix suffix mids) b lefts,
      )

  known : (l : EdgeData) → gone ≡ some l → Linked (add_or_update_edges but_last g.edges) t b
  known l e = raise_all-adds but_last g.edges t b
      (S.linked-right e₁ (e₂ ++ (e₃ ++ (e₄ ++ e₅))) t b (S.linked-right e₂ (e₃ ++ (e₄ ++ e₅)) t b
      (S.linked-right e₃ (e₄ ++ e₅) t b (S.linked-left e₄ e₅ t b (S.in-link_maybe t b gone l e)))))

  count-new : length (keep_if stays (add_or_update_edges c.edges g.edges)) ≤ length but_last + length (keep_if stays g.edges)
  count-new =
      rw (regroup, raise_all-append but_last e₆ g.edges, count-known (keeps mids) t b P gone (add_or_update_edges but_last g.edges) known)
      (count-raise_all (keeps mids) but_last g.edges)

  edges_are : length (apply_change g c).edges ≡ length (keep_if stays (add_or_update_edges c.edges g.edges))
  unfolding apply_change remove_vertices_by_id compact_vertices with_additions split_and_update_with
  edges_are = length-map (keep_if stays (add_or_update_edges c.edges g.edges)) (remap_edge (keeps mids))

  pub edges-split : length (apply_change g c).edges ≤ bit P
      + (bit (S' && not (is_none bottom)) + (length lefts + (loads gone + length lefts))) + length (keep_if stays g.edges)
  edges-split = omega (arith, edges_are, count-new, length-but-last)

  -- the edges that stay, those into the middles and those out of them
  module _ (once : Distinct mids) (apart : (e : Edge) → Memᴰ e g.edges → Memᴰ e.from mids → Memᴰ e.to mids → ⊥) where
    places : Edge → ℕ
    places e = bit (stays e) + (total (λ v. bit (eqb e.to v)) mids + total (λ v. bit (eqb e.from v)) mids)

    one_place : (e : Edge) → Memᴰ e g.edges → places e ≤ 1
    unfolding places bit
    one_place e m = by_test (keeps mids e.to)
        (λ y. by_test (keeps mids e.from)
        (λ x. omega (arith, bit_le (stays e), times_none e.to mids (keeps-not mids e.to y), times_none e.from mids (keeps-not mids e.from x)))
        (λ x. rw x (omega (arith, times_none e.to mids (keeps-not mids e.to y), times-le e.from mids once))))
        (λ y. omega (
          arith,
          and_no (keeps mids e.from) (keeps mids e.to) y,
          times-le e.to mids once,
          times_none e.from mids (λ k. apart e m k (not-keeps mids e.to y)),
        ))

    pub places-split : length (keep_if stays g.edges) + (total (in_degree g) mids + total (out_degree g) mids) ≤ length g.edges
    unfolding places in_degree out_degree edges_into edges_from
    places-split =
        let es = g.edges in
        let f₁ : Edge → ℕ = λ e. bit (stays e) in
        let f₂ : Edge → ℕ = λ e. total (λ v. bit (eqb e.to v)) mids in
        let f₃ : Edge → ℕ = λ e. total (λ v. bit (eqb e.from v)) mids in
        omega (
          arith,
          total-le places (λ _. 1) es one_place,
          total-one es,
          total-add f₁ (λ e. f₂ e + f₃ e) es,
          total-add f₂ f₃ es,
          length-keep_if stays es,
          length-flat (λ v (e : Edge). eqb e.to v) es mids,
          length-flat (λ v (e : Edge). eqb e.from v) es mids,
          length-flat-map (λ v. keep_if (λ (e : Edge). eqb e.to v) es) mids,
          length-flat-map (λ v. keep_if (λ (e : Edge). eqb e.from v) es) mids,
        )
