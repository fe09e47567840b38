-- What the definition's sort makes of a list of edges; any list in order with the same members is that. Assumes nothing.
use mathlib.Core.Path.{◌≡◌, refl, sym, ap, ◌∙◌}
use mathlib.Core.Bool.{Bool, true, false, ◌&&◌, ◌||◌}
use mathlib.Core.Logic.{◌⊎◌, inl, inr, ⊎_elim}
use mathlib.Core.List.Memᴰ
use mathlib.Core.List.{List, [], ◌∷◌, Memᴰ}
use Prim.Native.Nat.{ℕ, suc}
use lib.ListN.{length}
use Rattle.defs.specs.Lists.{same_list}
use Rattle.defs.specs.SeqGraph.{Edge, Graph, vertex_sequence}
use Rattle.defs.specs.Assembly.{bytes_before, edge_before, insert_edge, sort_edges}
use Rattle.laws.proofs.Walks.{by_test}
use Rattle.laws.proofs.ListLaws.{clash, same_list-eq, same_list-refl, or-false}
use Rattle.laws.proofs.Edges.{Linked}
use Rattle.laws.proofs.Counts.{Single}
use Rattle.kmer_order.proofs.BytesOrder.{not-before-trans, before-not, before_same, neither-before}

-- ---- pairs of byte strings, the first one first

abbrev pair_before : List ℕ → List ℕ → List ℕ → List ℕ → Bool
pair_before a b c d = bytes_before a c || (same_list a c && bytes_before b d)

module _ (a b c d : List ℕ) where
  pair-not : pair_before a b c d ≡ false → (bytes_before a c ≡ false) × (a ≡ c → bytes_before b d ≡ false)
  pair-not f =
      let s = or-false (bytes_before a c) (same_list a c && bytes_before b d) f in
      (s.0, λ q. sym (ap (λ (x : Bool). x && bytes_before b d) (ap (same_list a) (sym q) ∙ same_list-refl a)) ∙ s.1)

  pair-no : bytes_before a c ≡ false → (a ≡ c → bytes_before b d ≡ false) → pair_before a b c d ≡ false
  pair-no h k = by_test (same_list a c) (λ t. rw (h, t) (k (same_list-eq a c t))) (λ t. rw (h, t))

pair-asym : (a b c d : List ℕ) → pair_before a b c d ≡ true → pair_before c d a b ≡ false
pair-asym a b c d t = by_test (bytes_before a c)
    (λ s. pair-no c d a b (before-not a c s) (λ q. clash s (ap (bytes_before a) q ∙ before_same a)))
    (λ f. by_test (same_list a c)
    (λ s. let q = same_list-eq a c s in pair-no c d a b (ap (bytes_before c) q ∙ before_same c) (λ z. before-not b d (rw (f, s) at t)))
    (λ s. clash t (rw (f, s))))

pair-trans : (a b c d e f : List ℕ) → pair_before c d a b ≡ false → pair_before e f c d ≡ false → pair_before e f a b ≡ false
pair-trans a b c d e f h k =
    let x = pair-not c d a b h in
    let y = pair-not e f c d k in
    pair-no e f a b (not-before-trans a c e x.0 y.0)
    (λ q. let z : c ≡ a = neither-before c a x.0 (ap (λ (l : List ℕ). bytes_before l c) (sym q) ∙ y.0) in
    not-before-trans b d f (x.1 z) (y.1 (q ∙ sym z)))

-- ---- edges

module _ (g : Graph) where
  edge-asym : (d e : Edge) → edge_before g d e ≡ true → edge_before g e d ≡ false
  unfolding edge_before
  edge-asym d e t = pair-asym (vertex_sequence g d.from) (vertex_sequence g d.to) (vertex_sequence g e.from) (vertex_sequence g e.to) t

  -- an edge does not come before another: not by from, and not by to where their k-mers at from are the same
  pub edge-no : (d e : Edge) → bytes_before (vertex_sequence g d.from) (vertex_sequence g e.from) ≡ false
      → (vertex_sequence g d.from ≡ vertex_sequence g e.from → bytes_before (vertex_sequence g d.to) (vertex_sequence g e.to)
      ≡ false) → edge_before g d e ≡ false
  unfolding edge_before
  edge-no d e h k = pair-no (vertex_sequence g d.from) (vertex_sequence g d.to) (vertex_sequence g e.from) (vertex_sequence g e.to) h k

  edge-trans : (a b c : Edge) → edge_before g b a ≡ false → edge_before g c b ≡ false → edge_before g c a ≡ false
  unfolding edge_before
  edge-trans a b c h k = pair-trans (vertex_sequence g a.from) (vertex_sequence g a.to) (vertex_sequence g b.from)
      (vertex_sequence g b.to) (vertex_sequence g c.from) (vertex_sequence g c.to) h k

  -- two edges, neither of which comes first, have the same k-mers at their ends
  pub edge_same : (d e : Edge) → edge_before g d e ≡ false → edge_before g e d ≡ false
      → (vertex_sequence g d.from ≡ vertex_sequence g e.from) × (vertex_sequence g d.to ≡ vertex_sequence g e.to)
  unfolding edge_before
  edge_same d e h k =
      let x = pair-not (vertex_sequence g d.from) (vertex_sequence g d.to) (vertex_sequence g e.from) (vertex_sequence g e.to) h in
      let y = pair-not (vertex_sequence g e.from) (vertex_sequence g e.to) (vertex_sequence g d.from) (vertex_sequence g d.to) k in
      let q = neither-before (vertex_sequence g d.from) (vertex_sequence g e.from) x.0 y.0 in
      (q, neither-before (vertex_sequence g d.to) (vertex_sequence g e.to) (x.1 q) (y.1 (sym q)))

  -- no member comes before an earlier one
  abbrev pub Sorted : List Edge → Type 0
  Sorted [] = Unit {0}
  Sorted (x ∷ xs) = ((y : Edge) → Memᴰ y xs → edge_before g y x ≡ false) × Sorted xs

-- no member twice
abbrev pub EachOnce : List Edge → Type 0
EachOnce [] = Unit {0}
EachOnce (x ∷ xs) = (Memᴰ x xs → ⊥) × EachOnce xs

-- ---- one list is as good as another

module _ (g : Graph) where
  pub sorted-unique : (A B : List Edge) → Sorted g A → Sorted g B → EachOnce A → EachOnce B
      → ((x : Edge) → Memᴰ x A → Memᴰ x B) → ((x : Edge) → Memᴰ x B → Memᴰ x A)
      → ((x y : Edge) → Memᴰ x A → Memᴰ y A → edge_before g x y ≡ false → edge_before g y x ≡ false → x ≡ y) → A ≡ B
  sorted-unique [] [] sa sb oa ob f b anti = refl
  sorted-unique [] (y ∷ B) sa sb oa ob f b anti = absurd (Memᴰ.not-nil (b y (Memᴰ.head refl)))
  sorted-unique (x ∷ A) [] sa sb oa ob f b anti = absurd (Memᴰ.not-nil (f x (Memᴰ.head refl)))
  sorted-unique (x ∷ A) (y ∷ B) sa sb oa ob f b anti = λ i. first i
      ∷ sorted-unique A B sa.1 sb.1 oa.1 ob.1 forth back (λ u v m n. anti u v (Memᴰ.tail m) (Memᴰ.tail n)) i
    where
      first : x ≡ y
      first = ⊎_elim (λ (q : x ≡ y). q)
          (λ k. ⊎_elim (λ (q : y ≡ x). sym q)
          (λ l. anti x y (Memᴰ.head refl) (Memᴰ.tail l) (sb.0 x k) (sa.0 y l))
          (Memᴰ.cases_cons (b y (Memᴰ.head refl))))
          (Memᴰ.cases_cons (f x (Memᴰ.head refl)))

      forth : (z : Edge) → Memᴰ z A → Memᴰ z B
      forth z m = ⊎_elim (λ (q : z ≡ y). absurd (oa.0 (rw (q ∙ sym first) at m))) (λ k. k) (Memᴰ.cases_cons (f z (Memᴰ.tail m)))

      back : (z : Edge) → Memᴰ z B → Memᴰ z A
      back z m = ⊎_elim (λ (q : z ≡ x). absurd (ob.0 (rw (q ∙ first) at m))) (λ k. k) (Memᴰ.cases_cons (b z (Memᴰ.tail m)))

  -- ---- the definition's sort

  insert-yes : (d e : Edge) (es : List Edge) → edge_before g e d ≡ true → insert_edge g d (e ∷ es) ≡ e ∷ insert_edge g d es
  unfolding insert_edge
  insert-yes d e es t = rw (t, insert_edge)

  insert-no : (d e : Edge) (es : List Edge) → edge_before g e d ≡ false → insert_edge g d (e ∷ es) ≡ d ∷ e ∷ es
  unfolding insert_edge
  insert-no d e es t = rw (t, insert_edge)

  -- a member of the list with d is d, or was one
  of-insert : (d : Edge) (l : List Edge) (z : Edge) → Memᴰ z (insert_edge g d l) → (z ≡ d) ⊎ Memᴰ z l
  unfolding insert_edge
  of-insert d [] z m = Memᴰ.cases_cons m
  of-insert d (e ∷ l) z m = by_test (edge_before g e d)
      (λ t. ⊎_elim (λ (q : z ≡ e). inr (Memᴰ.head q)) (λ k.
      ⊎_elim (λ (q : z ≡ d). inl q) (λ n. inr (Memᴰ.tail n)) (of-insert d l z k))
      (Memᴰ.cases_cons (rw (insert-yes d e l t) at m)))
      (λ t. Memᴰ.cases_cons (rw (insert-no d e l t) at m))

  mem-insert : (d : Edge) (l : List Edge) (z : Edge) → (z ≡ d) ⊎ Memᴰ z l → Memᴰ z (insert_edge g d l)
  unfolding insert_edge
  mem-insert d [] z m = ⊎_elim (λ (q : z ≡ d). Memᴰ.head q) (λ k. absurd (Memᴰ.not-nil k)) m
  mem-insert d (e ∷ l) z m = by_test (edge_before g e d)
      (λ t. rw (insert-yes d e l t) (⊎_elim (λ (q : z ≡ d). Memᴰ.tail (mem-insert d l z (inl q))) (λ k.
      ⊎_elim (λ (q : z ≡ e). Memᴰ.head q) (λ n. Memᴰ.tail (mem-insert d l z (inr n))) (Memᴰ.cases_cons k)) m))
      (λ t. rw (insert-no d e l t) (⊎_elim (λ (q : z ≡ d). Memᴰ.head q) (λ k. Memᴰ.tail k) m))

  sorted_insert : (d : Edge) (l : List Edge) → Sorted g l → Sorted g (insert_edge g d l)
  unfolding insert_edge
  sorted_insert d [] s = (λ y m. absurd (Memᴰ.not-nil m), tt)
  sorted_insert d (e ∷ l) s = by_test (edge_before g e d)
      (λ t. rw (insert-yes d e l t) (λ y m. ⊎_elim (λ (q : y ≡ d). rw q (edge-asym g e d t)) (λ k. s.0 y k) (of-insert d l y m), sorted_insert d l s.1))
      (λ t. rw (insert-no d e l t) (λ y m. ⊎_elim (λ (q : y ≡ e). rw q t) (λ k. edge-trans g d e y t (s.0 y k)) (Memᴰ.cases_cons m), s))

  once-insert : (d : Edge) (l : List Edge) → (Memᴰ d l → ⊥) → EachOnce l → EachOnce (insert_edge g d l)
  unfolding insert_edge
  once-insert d [] n o = (λ m. Memᴰ.not-nil m, tt)
  once-insert d (e ∷ l) n o = by_test (edge_before g e d)
      (λ t. rw (insert-yes d e l t) (
        λ m. ⊎_elim (λ (q : e ≡ d). n (Memᴰ.head (sym q))) (λ k. o.0 k) (of-insert d l e m),
        once-insert d l (λ m. n (Memᴰ.tail m)) o.1,
      ))
      (λ t. rw (insert-no d e l t) (n, o))

  pub of-sort : (l : List Edge) (z : Edge) → Memᴰ z (sort_edges g l) → Memᴰ z l
  unfolding sort_edges
  of-sort [] z m = m
  of-sort (x ∷ l) z m = ⊎_elim (λ (q : z ≡ x). Memᴰ.head q) (λ k. Memᴰ.tail (of-sort l z k)) (of-insert x (sort_edges g l) z m)

  pub mem-sort : (l : List Edge) (z : Edge) → Memᴰ z l → Memᴰ z (sort_edges g l)
  unfolding sort_edges
  mem-sort [] z m = m
  mem-sort (x ∷ l) z m = mem-insert x (sort_edges g l) z (⊎_elim (λ (q : z ≡ x). inl q) (λ k. inr (mem-sort l z k)) (Memᴰ.cases_cons m))

  pub sorted_sort : (l : List Edge) → Sorted g (sort_edges g l)
  unfolding sort_edges
  sorted_sort [] = tt
  sorted_sort (x ∷ l) = sorted_insert x (sort_edges g l) (sorted_sort l)

  pub once-sort : (l : List Edge) → EachOnce l → EachOnce (sort_edges g l)
  unfolding sort_edges
  once-sort [] o = tt
  once-sort (x ∷ l) o = once-insert x (sort_edges g l) (λ m. o.0 (of-sort l x m)) (once-sort l o.1)

  length-insert : (d : Edge) (l : List Edge) → length (insert_edge g d l) ≡ suc (length l)
  unfolding insert_edge
  length-insert d [] = refl
  length-insert d (e ∷ l) = by_test (edge_before g e d)
      (λ t. ap length (insert-yes d e l t) ∙ ap suc (length-insert d l))
      (λ t. ap length (insert-no d e l t))

  pub length-sort : (l : List Edge) → length (sort_edges g l) ≡ length l
  unfolding sort_edges
  length-sort [] = refl
  length-sort (x ∷ l) = length-insert x (sort_edges g l) ∙ ap suc (length-sort l)

  single-insert : (d : Edge) (l : List Edge) → (Linked l d.from d.to → ⊥) → Single l → Single (insert_edge g d l)
  unfolding insert_edge
  single-insert d [] n s = (n, tt)
  single-insert d (e ∷ l) n s = by_test (edge_before g e d)
      (λ t. rw (insert-yes d e l t) (alone, single-insert d l (λ k. n (k.0, Memᴰ.tail k.1, k.2, k.3)) s.1))
      (λ t. rw (insert-no d e l t) (n, s))
    where
      alone : Linked (insert_edge g d l) e.from e.to → ⊥
      alone (x, m, p, q) = ⊎_elim
          (λ (i : x ≡ d). n (e, Memᴰ.head refl, sym p ∙ ap (λ (y : Edge). y.from) i, sym q ∙ ap (λ (y : Edge). y.to) i))
          (λ (k : Memᴰ x l). s.0 (x, k, p, q))
          (of-insert d l x m)

  pub single-sort : (l : List Edge) → Single l → Single (sort_edges g l)
  unfolding sort_edges
  single-sort [] s = tt
  single-sort (x ∷ l) s = single-insert x (sort_edges g l) (λ k. s.0 (k.0, of-sort l k.0 k.1, k.2, k.3)) (single-sort l s.1)
