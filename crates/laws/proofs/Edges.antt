-- What edges a changed graph has.
-- Assumes nothing.
use Prim.Native.Nat.{ℕ, zero, suc, ◌+◌, ◌≤◌, ◌<◌}
use native.Mathlib.Omega.{arith}
use native.Mathlib.Nat.{not-suc-le-zero}
use mathlib.Core.Path.{◌≡◌, refl, sym, ap, ◌∙◌, subst}
use mathlib.Core.Logic.{◌⊎◌, inl, inr, ⊎_elim}
use mathlib.Core.Bool.{Bool, true, false, ◌&&◌, not, false≢true}
use mathlib.Core.List.Memᴰ
use mathlib.Core.List.{List, [], ◌∷◌, ◌++◌, map, Memᴰ}
use lib.Dec.{eqb, ltb}
use lib.ListN.{length, get_or, get_or-append, length-append}
use lib.Seq.{get_or-append-add}
use borrow.Author.Tests.{eqb-true, eqb-false, eq-eqb, ne_eqb, not-true, not-false}
use Rattle.defs.specs.Lists.{keep_if, elem_of, all_of}
use Rattle.defs.specs.SeqGraph.{Edge, Graph, node_count, vertex_sequence, has_ends, add_or_update_edge, add_or_update_edges, edges_into, edges_from}
use Rattle.defs.specs.SeqGraph.{EdgeData, edge_data, new_edge, joined_data, incoming_nodes, outgoing_nodes, out_degree, in_degree, keeps, Change, with_additions}
use Rattle.defs.specs.Strings.{HasEdge}
use Rattle.laws.proofs.Walks.{by_test}
use Rattle.laws.proofs.ListLaws.{clash, and_split, and-true, mem-keep_if, of-keep_if}

-- an edge of the list from u to v
abbrev pub Linked : List Edge → ℕ → ℕ → Type 0
Linked es u v = (e : Edge) × Memᴰ e es × (e.from ≡ u) × (e.to ≡ v)

pub linked-tail : {e : Edge} {es : List Edge} (a b : ℕ) → Linked es a b → Linked (e ∷ es) a b
linked-tail a b l = (l.0, Memᴰ.tail l.1, l.2, l.3)

pub linked-cases : {X : Type 0} (e : Edge) (es : List Edge) (a b : ℕ) → Linked (e ∷ es) a b → (e.from ≡ a → e.to ≡ b → X) → (Linked es a b → X) → X
linked-cases e es a b (f, m, p, q) k h =
    ⊎_elim (λ (i : f ≡ e). k (ap (λ (x : Edge). x.from) (sym i) ∙ p) (ap (λ (x : Edge). x.to) (sym i) ∙ q)) (λ n. h (f, n, p, q)) (Memᴰ.cases_cons m)

-- an edge has the ends that it is asked for
pub joins-ends : (u v : ℕ) (e : Edge) → has_ends u v e ≡ true → (e.from ≡ u) × (e.to ≡ v)
unfolding has_ends
joins-ends u v e t = let h = and_split _ _ t in (eqb-true _ _ h.0, eqb-true _ _ h.1)

module _ (u v : ℕ) (d : EdgeData) where
  pub raise-yes : (e : Edge) (es : List Edge) → has_ends u v e ≡ true → add_or_update_edge u v d (e ∷ es) ≡ new_edge e.from e.to (joined_data (edge_data e) d) ∷ es
  unfolding add_or_update_edge
  raise-yes e es t = rw (t, add_or_update_edge)

  pub raise-no : (e : Edge) (es : List Edge) → has_ends u v e ≡ false → add_or_update_edge u v d (e ∷ es) ≡ e ∷ add_or_update_edge u v d es
  unfolding add_or_update_edge
  raise-no e es t = rw (t, add_or_update_edge)

  pub raise-keeps : (es : List Edge) (a b : ℕ) → Linked es a b → Linked (add_or_update_edge u v d es) a b
  unfolding new_edge
  raise-keeps [] a b l = absurd (Memᴰ.not-nil l.1)
  raise-keeps (e ∷ es) a b l =
      by_test (has_ends u v e)
      (λ t. rw (raise-yes e es t) (linked-cases e es a b l (λ p q. (_, Memᴰ.head refl, p, q)) (linked-tail a b)))
      (λ t. rw (raise-no e es t) (linked-cases e es a b l (λ p q. (e, Memᴰ.head refl, p, q)) (λ k. linked-tail a b (raise-keeps es a b k))))

  pub raise-adds : (es : List Edge) → Linked (add_or_update_edge u v d es) u v
  unfolding add_or_update_edge new_edge
  raise-adds [] = (_, Memᴰ.head refl, refl, refl)
  raise-adds (e ∷ es) =
      by_test (has_ends u v e)
      (λ t. rw (raise-yes e es t) (_, Memᴰ.head refl, (joins-ends u v e t).0, (joins-ends u v e t).1))
      (λ t. rw (raise-no e es t) (linked-tail u v (raise-adds es)))

  pub of-raise : {X : Type 0} (es : List Edge) (a b : ℕ) → Linked (add_or_update_edge u v d es) a b → (Linked es a b → X) → (u ≡ a → v ≡ b → X) → X
  unfolding add_or_update_edge new_edge
  of-raise [] a b l k h = linked-cases _ [] a b l h k
  of-raise (e ∷ es) a b l k h =
      by_test (has_ends u v e)
      (λ t. linked-cases _ es a b (rw (raise-yes e es t) at l) (λ p q. k (e, Memᴰ.head refl, p, q)) (λ m. k (linked-tail a b m)))
      (λ t. linked-cases e (add_or_update_edge u v d es) a b (rw (raise-no e es t) at l) (λ p q. k (e, Memᴰ.head refl, p, q)) (λ m.
      of-raise es a b m (λ n. k (linked-tail a b n)) h))

pub raise_all-keeps : (ns es : List Edge) (a b : ℕ) → Linked es a b → Linked (add_or_update_edges ns es) a b
unfolding add_or_update_edges
raise_all-keeps [] es a b l = l
raise_all-keeps (n ∷ ns) es a b l = raise_all-keeps ns _ a b (raise-keeps n.from n.to (edge_data n) es a b l)

pub raise_all-adds : (ns es : List Edge) (a b : ℕ) → Linked ns a b → Linked (add_or_update_edges ns es) a b
unfolding add_or_update_edges
raise_all-adds [] es a b l = absurd (Memᴰ.not-nil l.1)
raise_all-adds (n ∷ ns) es a b l =
    linked-cases n ns a b l
    (λ p q. raise_all-keeps ns _ a b (rw (← p, ← q) (raise-adds n.from n.to (edge_data n) es)))
    (λ m. raise_all-adds ns _ a b m)

pub of-raise_all : {X : Type 0} (ns es : List Edge) (a b : ℕ) → Linked (add_or_update_edges ns es) a b → (Linked es a b → X) → (Linked ns a b → X) → X
unfolding add_or_update_edges
of-raise_all [] es a b l k h = k l
of-raise_all (n ∷ ns) es a b l k h =
    of-raise_all ns _ a b l
    (λ m. of-raise n.from n.to (edge_data n) es a b m k (λ p q. h (n, Memᴰ.head refl, p, q)))
    (λ m. h (linked-tail a b m))

-- membership by test
pub elem_of-true : (n : ℕ) (l : List ℕ) → elem_of n l ≡ true → Memᴰ n l
unfolding elem_of
elem_of-true n [] t = absurd (false≢true t)
elem_of-true n (x ∷ xs) t =
    by_test (eqb n x) (λ e. Memᴰ.head (eqb-true n x e)) (λ e. Memᴰ.tail (elem_of-true n xs (rw (e, elem_of) at t)))

pub elem_of-mem : (n : ℕ) (l : List ℕ) → Memᴰ n l → elem_of n l ≡ true
unfolding elem_of
elem_of-mem n [] m = absurd (Memᴰ.not-nil m)
elem_of-mem n (x ∷ xs) m =
    by_test (eqb n x) (λ e. rw (e, elem_of))
    (λ e. rw (e, elem_of) (⊎_elim (λ (i : n ≡ x). absurd (eqb-false n x e i)) (λ k. elem_of-mem n xs k) (Memᴰ.cases_cons m)))

pub keeps-not : (gone : List ℕ) (v : ℕ) → keeps gone v ≡ true → Memᴰ v gone → ⊥
unfolding keeps
keeps-not gone v t m = clash (elem_of-mem v gone m) (not-true _ t)

pub not-keeps : (gone : List ℕ) (v : ℕ) → keeps gone v ≡ false → Memᴰ v gone
unfolding keeps
not-keeps gone v t = elem_of-true v gone (not-false _ t)

pub keeps-other : (gone : List ℕ) (v : ℕ) → (Memᴰ v gone → ⊥) → keeps gone v ≡ true
keeps-other gone v h = by_test (keeps gone v) (λ t. t) (λ t. absurd (h (not-keeps gone v t)))

pub keeps-gone : (gone : List ℕ) (v : ℕ) → Memᴰ v gone → keeps gone v ≡ false
keeps-gone gone v m = by_test (keeps gone v) (λ t. absurd (keeps-not gone v t m)) (λ t. t)

pub all_of-mem : {A : Type 0} (p : A → Bool) (l : List A) {x : A} → all_of p l ≡ true → Memᴰ x l → p x ≡ true
unfolding all_of
all_of-mem p [] t m = absurd (Memᴰ.not-nil m)
all_of-mem p (y ∷ ys) {x} t m =
    by_test (p y)
    (λ e. ⊎_elim (λ (i : x ≡ y). ap p i ∙ e) (λ k. all_of-mem p ys (rw (e, all_of) at t) k) (Memᴰ.cases_cons m))
    (λ e. clash (rw (e, all_of) at t) refl)

pub singleton : {A : Type 0} (l : List A) {x y : A} → length l ≡ 1 → Memᴰ x l → Memᴰ y l → x ≡ y
singleton [] h m n = absurd (Memᴰ.not-nil m)
singleton (a ∷ []) h m n = Memᴰ.eq_of_singleton m ∙ sym (Memᴰ.eq_of_singleton n)
singleton (a ∷ b ∷ l) h m n = absurd (omega arith)

pub nonempty : {A : Type 0} (l : List A) → 0 < length l → (x : A) × Memᴰ x l
nonempty [] h = absurd (not-suc-le-zero h)
nonempty (x ∷ xs) h = (x, Memᴰ.head refl)

-- the edges at a vertex
module _ (g : Graph) where
  pub mem-ins : (u v : ℕ) → HasEdge g u v → Memᴰ u (incoming_nodes g v)
  unfolding incoming_nodes edges_into
  mem-ins u v (e, m, p, q) = rw p at (Memᴰ.map (λ (e : Edge). e.from) (mem-keep_if (λ (e : Edge). eqb e.to v) m (eq-eqb _ _ q)))

  pub of-mem-ins : (u v : ℕ) → Memᴰ u (incoming_nodes g v) → HasEdge g u v
  unfolding incoming_nodes edges_into
  of-mem-ins u v m =
      let r = Memᴰ.of_map (λ (e : Edge). e.from) _ m in
      let k = of-keep_if (λ (e : Edge). eqb e.to v) g.edges r.1 in
      (r.0, k.0, r.2, eqb-true _ _ k.1)

  pub of-edges_into : (v : ℕ) (e : Edge) → Memᴰ e (edges_into g v) → Memᴰ e g.edges × (e.to ≡ v)
  unfolding edges_into
  of-edges_into v e m = let k = of-keep_if (λ (e : Edge). eqb e.to v) g.edges m in (k.0, eqb-true _ _ k.1)

  pub of-edges_from : (v : ℕ) (e : Edge) → Memᴰ e (edges_from g v) → Memᴰ e g.edges × (e.from ≡ v)
  unfolding edges_from
  of-edges_from v e m = let k = of-keep_if (λ (e : Edge). eqb e.from v) g.edges m in (k.0, eqb-true _ _ k.1)

  pub in-edges_into : (v : ℕ) (e : Edge) → Memᴰ e g.edges → e.to ≡ v → Memᴰ e (edges_into g v)
  unfolding edges_into
  in-edges_into v e m q = mem-keep_if (λ (e : Edge). eqb e.to v) m (eq-eqb _ _ q)

  pub in-edges_from : (v : ℕ) (e : Edge) → Memᴰ e g.edges → e.from ≡ v → Memᴰ e (edges_from g v)
  unfolding edges_from
  in-edges_from v e m q = mem-keep_if (λ (e : Edge). eqb e.from v) m (eq-eqb _ _ q)

  pub only_out_lem : (u a b : ℕ) → out_degree g u ≡ 1 → HasEdge g u a → HasEdge g u b → a ≡ b
  unfolding out_degree
  only_out_lem u a b d (e, m, p, q) (f, n, r, s) =
      sym q ∙ (ap (λ (x : Edge). x.to) (singleton (edges_from g u) d (in-edges_from u e m p) (in-edges_from u f n r)) ∙ s)

  pub some_in : (v : ℕ) → 0 < in_degree g v → (u : ℕ) × HasEdge g u v
  unfolding in_degree
  some_in v h = let r = nonempty (edges_into g v) h in let k = of-edges_into v r.0 r.1 in (r.0.from, (r.0, k.0, refl, k.1))

  module _ (c : Change) where
    pub order-grown : node_count (with_additions c g) ≡ node_count g + length c.verts
    unfolding node_count with_additions
    order-grown = length-append g.verts c.verts

    pub seq-grown-old : (v : ℕ) → v < node_count g → vertex_sequence (with_additions c g) v ≡ vertex_sequence g v
    unfolding node_count with_additions vertex_sequence
    seq-grown-old v h = get_or-append g.verts c.verts [] v h

    pub seq-grown-new : (i : ℕ) → vertex_sequence (with_additions c g) (node_count g + i) ≡ get_or c.verts i []
    unfolding node_count with_additions vertex_sequence
    seq-grown-new i = get_or-append-add g.verts c.verts i []
