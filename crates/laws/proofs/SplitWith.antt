-- Diamonds and tails keep the strings.
-- Assumes nothing.
use Prim.Native.Nat.{ℕ, zero, suc, ◌+◌, ◌-◌, ◌*◌, ◌≤◌, ◌<◌}
use native.Mathlib.Omega.{arith}
use native.Mathlib.Nat.{add-zero, not-suc-le-zero, le_of_suc-le-suc}
use mathlib.Core.Path.{◌≡◌, refl, sym, ap, ◌∙◌}
use mathlib.Core.Logic.{◌⊎◌, inl, inr, ⊎_elim, ◌↔◌}
use mathlib.Core.Bool.{Bool, true, false, cond, not, ◌&&◌, ◌||◌, true≢false}
use mathlib.Core.Option.{Option, none, some}
use mathlib.Core.List.Memᴰ
use mathlib.Core.List.{List, [], ◌∷◌, ◌++◌, map, append_assoc, Memᴰ}
use lib.Dec.{eqb, ltb}
use borrow.Author.Tests.{lt-ltb, le-ltb, eq-eqb, ne_eqb}
use lib.ListN.{length, get_or, length-map}
use Rattle.defs.specs.Lists.{bit, any_of}
use Rattle.defs.specs.SeqGraph.{Edge, Graph, node_count, vertex_sequence, keeps, Change, with_additions, apply_change, remove_vertices_by_id, EdgeData, new_edge}
use Rattle.defs.specs.Rewrites.{MidPlan, support_one, new_edge_if, edges_to_middles, edges_from_middles, only_if, or_else, is_none, is_ref_if, split_and_update_with}
use Rattle.defs.specs.Strings.{HasEdge, Spells}
use Rattle.laws.proofs.Counts.{total, Distinct}
use Rattle.laws.proofs.Sound.{Keeps}
use Rattle.laws.proofs.Walks.{Net, Pt, start, at, stop, Go, text, IsSink, Steps, stay, step, single, then, cast, Tour, hit, pass, kept, by_test}
use Rattle.laws.proofs.ListLaws.{clash, by_order, and_split, and-true, bit-yes}
use Rattle.laws.proofs.Nets.{Ranks, net_of, part_of, Bounded, edge-inside}
use Rattle.laws.proofs.Edges.{Linked, linked-cases, linked-tail, keeps-other, order-grown, seq-grown-new, seq-grown-old}
use Rattle.laws.proofs.Changes.{Local, Forth, Back, common, common-is, is-common, link-U, of-U-new, spells-change}
use Rattle.laws.proofs.Changes.{old-less, of-grown, ranks-change, bounded-change, weight-change, order-change, sink-old, edges-local}
use Rattle.laws.proofs.Changes.{verts-local}
use Rattle.laws.proofs.Branching.{ends, sinks, sinks-by}

-- lists of edges
pub linked-append : {X : Type 0} (xs ys : List Edge) (u v : ℕ) → Linked (xs ++ ys) u v → (Linked xs u v → X) → (Linked ys u v → X) → X
linked-append xs ys u v (e, m, p, q) k h = ⊎_elim (λ n. k (e, n, p, q)) (λ n. h (e, n, p, q)) (Memᴰ.append_cases xs m)

pub linked-left : (xs ys : List Edge) (u v : ℕ) → Linked xs u v → Linked (xs ++ ys) u v
linked-left xs ys u v (e, m, p, q) = (e, Memᴰ.append_left ys m, p, q)

pub linked-right : (xs ys : List Edge) (u v : ℕ) → Linked ys u v → Linked (xs ++ ys) u v
linked-right xs ys u v (e, m, p, q) = (e, Memᴰ.append_right xs m, p, q)

pub of-links_into : (t n : ℕ) (ps : List MidPlan) (u v : ℕ) → Linked (edges_to_middles t n ps) u v → (u ≡ t) × (i : ℕ) × (i < length ps) × (v ≡ n + i)
unfolding edges_to_middles new_edge
of-links_into t n [] u v l = absurd (Memᴰ.not-nil l.1)
of-links_into t n (p ∷ ps) u v l = linked-cases _ (edges_to_middles t (suc n) ps) u v l
    (λ a b. (sym a, 0, omega arith, rw add-zero (sym b)))
    (λ k. let h = of-links_into t (suc n) ps u v k in (h.0, suc h.1, omega (arith, h.2), omega (arith, h.3)))

pub in-links_into : (t n : ℕ) (ps : List MidPlan) (i : ℕ) → i < length ps → Linked (edges_to_middles t n ps) t (n + i)
unfolding edges_to_middles new_edge
in-links_into t n [] i h = absurd (not-suc-le-zero h)
in-links_into t n (p ∷ ps) zero h = (_, Memᴰ.head refl, refl, sym (add-zero n))
in-links_into t n (p ∷ ps) (suc i) h = let e : n + suc i ≡ suc n + i = omega arith in
    rw e (linked-tail t (suc n + i) (in-links_into t (suc n) ps i (le_of_suc-le-suc h)))

pub of-links_from : (n b : ℕ) (ps : List MidPlan) (u v : ℕ) → Linked (edges_from_middles n b ps) u v → (v ≡ b) × (i : ℕ) × (i < length ps) × (u ≡ n + i)
unfolding edges_from_middles new_edge
of-links_from n b [] u v l = absurd (Memᴰ.not-nil l.1)
of-links_from n b (p ∷ ps) u v l = linked-cases _ (edges_from_middles (suc n) b ps) u v l
    (λ x y. (sym y, 0, omega arith, rw add-zero (sym x)))
    (λ k. let h = of-links_from (suc n) b ps u v k in (h.0, suc h.1, omega (arith, h.2), omega (arith, h.3)))

pub in-links_from : (n b : ℕ) (ps : List MidPlan) (i : ℕ) → i < length ps → Linked (edges_from_middles n b ps) (n + i) b
unfolding edges_from_middles new_edge
in-links_from n b [] i h = absurd (not-suc-le-zero h)
in-links_from n b (p ∷ ps) zero h = (_, Memᴰ.head refl, sym (add-zero n), refl)
in-links_from n b (p ∷ ps) (suc i) h = let e : n + suc i ≡ suc n + i = omega arith in
    rw e (linked-tail (suc n + i) b (in-links_from (suc n) b ps i (le_of_suc-le-suc h)))

pub of-link_maybe : (t b : ℕ) (o : Option EdgeData) (u v : ℕ) → Linked (new_edge_if t b o) u v → (l : EdgeData) × (o ≡ some l) × (u ≡ t) × (v ≡ b)
unfolding new_edge_if new_edge
of-link_maybe t b none u v l = absurd (Memᴰ.not-nil l.1)
of-link_maybe t b (some x) u v l = linked-cases _ [] u v l (λ a c. (x, refl, sym a, sym c)) (λ k. absurd (Memᴰ.not-nil k.1))

pub in-link_maybe : (t b : ℕ) (o : Option EdgeData) (l : EdgeData) → o ≡ some l → Linked (new_edge_if t b o) t b
unfolding new_edge_if new_edge
in-link_maybe t b o l e = rw e (_, Memᴰ.head refl, refl, refl)

pub of-only : (p : Bool) (l : List Edge) (u v : ℕ) → Linked (only_if p l) u v → (p ≡ true) × Linked l u v
unfolding only_if
of-only true l u v k = (refl, k)
of-only false l u v k = absurd (Memᴰ.not-nil k.1)

pub in-only : (p : Bool) (l : List Edge) (u v : ℕ) → p ≡ true → Linked l u v → Linked (only_if p l) u v
unfolding only_if
in-only p l u v t k = rw t k

pub of_one : (e : Edge) (u v : ℕ) → Linked (e ∷ []) u v → (u ≡ e.from) × (v ≡ e.to)
of_one e u v l = linked-cases e [] u v l (λ a b. (sym a, sym b)) (λ k. absurd (Memᴰ.not-nil k.1))

and-off : (a b : Bool) → (a ≡ true → b ≡ false) → (a && b) ≡ false
and-off true b h = h refl
and-off false b h = refl

abbrev pub exit_of : Option ℕ → Pt
exit_of none = stop
exit_of (some b) = at b

-- the links of the change
module _ (P S : Bool) (n top : ℕ) (bottom : Option ℕ) (lefts : List MidPlan) (gone : Option EdgeData) (prefix suffix mids : List ℕ) where
  abbrev pub c : Change
  c = split_and_update_with P S n top bottom lefts gone prefix suffix mids

  abbrev pub sv : ℕ
  sv = bit P + n

  abbrev pub mv : ℕ
  mv = bit S + (bit P + n)

  abbrev pub t : ℕ
  t = cond P n top

  abbrev pub b' : ℕ
  b' = cond S (bit P + n) (or_else 0 bottom)

  not_none : (o : Option ℕ) → not (is_none o) ≡ true → (b : ℕ) × (o ≡ some b)
  unfolding is_none
  not_none none e = clash refl (sym e)
  not_none (some b) e = (b, refl)

  abbrev pub first : Edge
  first = new_edge top n (support_one (any_of (λ p. p.to_mid.is_ref) lefts || is_ref_if gone))

  abbrev pub last : Edge
  last = new_edge sv (or_else 0 bottom) (support_one (any_of (λ p. p.from_mid.is_ref) lefts || is_ref_if gone))

  abbrev pub e₁ : List Edge
  e₁ = only_if P (first ∷ [])

  abbrev pub e₂ : List Edge
  e₂ = only_if (S && not (is_none bottom)) (last ∷ [])

  abbrev pub e₃ : List Edge
  e₃ = edges_to_middles t mv lefts

  abbrev pub e₄ : List Edge
  e₄ = new_edge_if t b' gone

  abbrev pub e₅ : List Edge
  e₅ = edges_from_middles mv b' lefts

  abbrev pub e₆ : List Edge
  e₆ = only_if P (new_edge_if t b' gone)

  pub of-links : {X : Type 0} (u v : ℕ) → Linked c.edges u v
      → (P ≡ true → u ≡ top → v ≡ n → X)
      → (S ≡ true → (b : ℕ) → bottom ≡ some b → u ≡ sv → v ≡ b → X)
      → ((i : ℕ) → i < length lefts → u ≡ t → v ≡ mv + i → X)
      → ((l : EdgeData) → gone ≡ some l → u ≡ t → v ≡ b' → X)
      → ((i : ℕ) → i < length lefts → u ≡ mv + i → v ≡ b' → X)
      → X
  unfolding split_and_update_with new_edge or_else
  of-links u v l k₁ k₂ k₃ k₄ k₅ =
      linked-append e₁ (e₂ ++ (e₃ ++ (e₄ ++ (e₅ ++ e₆)))) u v l
      (λ h. let a = of-only P (first ∷ []) u v h in let b = of_one first u v a.1 in k₁ a.0 b.0 b.1)
      (λ l₂. linked-append e₂ (e₃ ++ (e₄ ++ (e₅ ++ e₆))) u v l₂
      (λ h. let a = of-only (S && not (is_none bottom)) (last ∷ []) u v h in
      let d = and_split S (not (is_none bottom)) a.0 in
      let e = not_none bottom d.1 in
      let b = of_one last u v a.1 in
      k₂ d.0 e.0 e.1 b.0 (b.1 ∙ ap (or_else 0) e.1))
      (λ l₃. linked-append e₃ (e₄ ++ (e₅ ++ e₆)) u v l₃
      (λ h. let a = of-links_into t mv lefts u v h in k₃ a.1 a.2 a.0 a.3)
      (λ l₄. linked-append e₄ (e₅ ++ e₆) u v l₄
      (λ h. let a = of-link_maybe t b' gone u v h in k₄ a.0 a.1 a.2 a.3)
      (λ l₅. linked-append e₅ e₆ u v l₅
      (λ h. let a = of-links_from mv b' lefts u v h in k₅ a.1 a.2 a.3 a.0)
      (λ h. let a = of-link_maybe t b' gone u v (of-only P (new_edge_if t b' gone) u v h).1 in k₄ a.0 a.1 a.2 a.3)))))

  pub l₁ : P ≡ true → Linked c.edges top n
  unfolding split_and_update_with new_edge
  l₁ p = linked-left e₁ (e₂ ++ (e₃ ++ (e₄ ++ (e₅ ++ e₆)))) top n (in-only P (first ∷ []) top n p (first, Memᴰ.head refl, refl, refl))

  pub l₂ : S ≡ true → (b : ℕ) → bottom ≡ some b → Linked c.edges sv b
  unfolding split_and_update_with new_edge is_none or_else
  l₂ s b e =
      linked-right e₁ (e₂ ++ (e₃ ++ (e₄ ++ (e₅ ++ e₆)))) sv b
      (linked-left e₂ (e₃ ++ (e₄ ++ (e₅ ++ e₆))) sv b
      (in-only (S && not (is_none bottom)) (last ∷ []) sv b (rw (s, e)) (last, Memᴰ.head refl, refl, ap (or_else 0) e)))

  pub l₃ : (i : ℕ) → i < length lefts → Linked c.edges t (mv + i)
  unfolding split_and_update_with
  l₃ i h =
      linked-right e₁ (e₂ ++ (e₃ ++ (e₄ ++ (e₅ ++ e₆)))) t (mv + i)
      (linked-right e₂ (e₃ ++ (e₄ ++ (e₅ ++ e₆))) t (mv + i) (linked-left e₃ (e₄ ++ (e₅ ++ e₆)) t (mv + i) (in-links_into t mv lefts i h)))

  pub l₄ : (l : EdgeData) → gone ≡ some l → Linked c.edges t b'
  unfolding split_and_update_with
  l₄ l e =
      linked-right e₁ (e₂ ++ (e₃ ++ (e₄ ++ (e₅ ++ e₆)))) t b'
      (linked-right e₂ (e₃ ++ (e₄ ++ (e₅ ++ e₆))) t b' (linked-right e₃ (e₄ ++ (e₅ ++ e₆)) t b' (linked-left e₄ (e₅ ++ e₆) t b' (in-link_maybe t b' gone l e))))

  pub l₅ : (i : ℕ) → i < length lefts → Linked c.edges (mv + i) b'
  unfolding split_and_update_with
  l₅ i h =
      linked-right e₁ (e₂ ++ (e₃ ++ (e₄ ++ (e₅ ++ e₆)))) (mv + i) b'
      (linked-right e₂ (e₃ ++ (e₄ ++ (e₅ ++ e₆))) (mv + i) b'
      (linked-right e₃ (e₄ ++ (e₅ ++ e₆)) (mv + i) b' (linked-right e₄ (e₅ ++ e₆) (mv
      + i) b' (linked-left e₅ e₆ (mv + i) b' (in-links_from mv b' lefts i h)))))

  -- the new vertices
  skip : (p : Bool) (x : List ℕ) (ys : List (List ℕ)) (i : ℕ) → get_or (only_if p (x ∷ []) ++ ys) (bit p + i) [] ≡ get_or ys i []
  unfolding only_if bit
  skip true x ys i = let e : 1 + i ≡ suc i = omega arith in rw e
  skip false x ys i = let e : 0 + i ≡ i = omega arith in rw e

  pub size : length c.verts ≡ bit P + (bit S + length lefts)
  unfolding split_and_update_with only_if bit
  size = by_test P (λ p. by_test S (λ s. rw (p, s) (omega (arith, length-map lefts (λ p. p.remaining)))) (λ s.
      rw (p, s) (omega (arith, length-map lefts (λ p. p.remaining))))) (λ p.
      by_test S (λ s. rw (p, s) (omega (arith, length-map lefts (λ p. p.remaining)))) (λ s.
      rw (p, s) (omega (arith, length-map lefts (λ p. p.remaining)))))

  pub new₁ : P ≡ true → get_or c.verts 0 [] ≡ prefix
  unfolding split_and_update_with only_if
  new₁ p = rw p

  pub new₂ : S ≡ true → get_or c.verts (bit P) [] ≡ suffix
  unfolding split_and_update_with only_if bit
  new₂ s = by_test P (λ p. rw (p, s)) (λ p. rw (p, s))

  pub new₃ : (i : ℕ) → get_or c.verts (bit P + (bit S + i)) [] ≡ get_or (map (λ p. p.remaining) lefts) i []
  unfolding split_and_update_with
  new₃ i = skip P prefix _ _ ∙ skip S suffix _ i

-- What a graph's diamond or set of tails is, for the strings.
module _ (g : Graph) (bounded : Bounded g) (r : ℕ → ℕ) (ranks : Ranks g r)
    (P S : Bool) (top : ℕ) (bottom : Option ℕ) (lefts : List MidPlan) (gone : Option EdgeData) (prefix suffix mids : List ℕ)
    (no_prefix : P ≡ false → prefix ≡ []) (no_suffix : S ≡ false → (suffix ≡ []) × (b : ℕ) × (bottom ≡ some b)) (any_new : (P ≡ true) ⊎ (S ≡ true))
    (part : ℕ → List ℕ) (cuts : (m : ℕ) → Memᴰ m mids → vertex_sequence g m ≡ prefix ++ (part m ++ suffix))
    (left_at : (m : ℕ) → Memᴰ m mids → ((i : ℕ) × (i < length lefts) × (get_or (map (λ p. p.remaining) lefts) i [] ≡ part m))
    ⊎ ((part m ≡ []) × (l : EdgeData) × (gone ≡ some l)))
    (of_left : (i : ℕ) → i < length lefts → (m : ℕ) × Memᴰ m mids × (get_or (map (λ p. p.remaining) lefts) i [] ≡ part m))
    (of_gone : (l : EdgeData) → gone ≡ some l → (m : ℕ) × Memᴰ m mids × (part m ≡ []))
    (mid_in : (m : ℕ) → Memᴰ m mids → HasEdge g top m) (only_in : (u m : ℕ) → Memᴰ m mids → HasEdge g u m → u ≡ top) (some_mid :
    (m : ℕ) × Memᴰ m mids)
    (exits : (m : ℕ) → Memᴰ m mids → Go (net_of g) (at m) (exit_of bottom)) (only_exit : (m : ℕ) (q : Pt) → Memᴰ m mids
    → Go (net_of g) (at m) q → q ≡ exit_of bottom) where
  abbrev C : Change
  C = c P S (node_count g) top bottom lefts gone prefix suffix mids

  abbrev G : Graph
  G = with_additions C g

  abbrev pv : ℕ
  pv = node_count g

  abbrev sv' : ℕ
  sv' = bit P + node_count g

  abbrev mv' : ℕ
  mv' = bit S + (bit P + node_count g)

  abbrev t' : ℕ
  t' = cond P (node_count g) top

  abbrev b'' : ℕ
  b'' = cond S (bit P + node_count g) (or_else 0 bottom)

  old-edge : (u v : ℕ) → HasEdge g u v → (u < node_count g) × (v < node_count g)
  old-edge = edge-inside g bounded

  top-old : top < node_count g
  top-old = (old-edge top some_mid.0 (mid_in some_mid.0 some_mid.1)).0

  mid-old : (m : ℕ) → Memᴰ m mids → m < node_count g
  mid-old m k = (old-edge top m (mid_in m k)).1

  top-stays : Memᴰ top mids → ⊥
  top-stays k = omega (arith, ranks top top (mid_in top k))

  bottom-in : (b : ℕ) → bottom ≡ some b → (m : ℕ) → Memᴰ m mids → HasEdge g m b
  bottom-in b e m k = rw e at (exits m k)

  bottom-old : (b : ℕ) → bottom ≡ some b → b < node_count g
  bottom-old b e = (old-edge some_mid.0 b (bottom-in b e some_mid.0 some_mid.1)).1

  bottom-stays : (b : ℕ) → bottom ≡ some b → Memᴰ b mids → ⊥
  bottom-stays b e k = let i = only_in some_mid.0 b k (bottom-in b e some_mid.0 some_mid.1) in top-stays (rw i at some_mid.1)

  t-yes : P ≡ true → t' ≡ pv
  t-yes p = rw p

  t-no : P ≡ false → t' ≡ top
  t-no p = rw p

  b-yes : S ≡ true → b'' ≡ sv'
  b-yes s = rw s

  b-no : S ≡ false → (b : ℕ) → bottom ≡ some b → b'' ≡ b
  unfolding or_else
  b-no s b e = rw (s, e)

  bit-no : (p : Bool) → p ≡ false → bit p ≡ 0
  unfolding bit
  bit-no p e = rw e

  size_g : node_count G ≡ node_count g + (bit P + (bit S + length lefts))
  size_g = order-grown g C ∙ ap (λ x. node_count g + x) (size P S (node_count g) top bottom lefts gone prefix suffix mids)

  links : {X : Type 0} (u v : ℕ) → Linked C.edges u v
      → (P ≡ true → u ≡ top → v ≡ node_count g → X) → (S ≡ true → (b : ℕ) → bottom ≡ some b → u ≡ sv' → v ≡ b → X)
      → ((i : ℕ) → i < length lefts → u ≡ t' → v ≡ mv' + i → X) → ((l : EdgeData) → gone ≡ some l → u ≡ t' → v ≡ b'' → X)
      → ((i : ℕ) → i < length lefts → u ≡ mv' + i → v ≡ b'' → X) → X
  links = of-links P S (node_count g) top bottom lefts gone prefix suffix mids

  by_t : {X : Type 0} → (P ≡ true → t' ≡ pv → X) → (P ≡ false → t' ≡ top → X) → X
  by_t k h = by_test P (λ p. k p (t-yes p)) (λ p. h p (t-no p))

  by_b : {X : Type 0} → (S ≡ true → b'' ≡ sv' → X) → (S ≡ false → (b : ℕ) → bottom ≡ some b → b'' ≡ b → X) → X
  by_b k h = by_test S (λ s. k s (b-yes s)) (λ s. let e = no_suffix s in h s e.1 e.2 (b-no s e.1 e.2))

  -- a link begins at top or at a new vertex, and ends at bottom or at a new vertex
  begins : {X : Type 0} (u v : ℕ) → Linked C.edges u v → (u ≡ top → X) → (node_count g ≤ u → u < node_count G → X) → X
  begins u v l k h = links u v l
      (λ p a b. k a)
      (λ s b e a d. h (omega arith) (omega (arith, size_g, bit-yes S s)))
      (λ i j a b. by_t (λ p e. h (omega arith) (omega (arith, size_g, bit-yes P p))) (λ p e. k (a ∙ e)))
      (λ y j a b. by_t (λ p e. h (omega arith) (omega (arith, size_g, bit-yes P p))) (λ p e. k (a ∙ e)))
      (λ i j a b. h (omega arith) (omega (arith, size_g)))

  finishes : {X : Type 0} (u v : ℕ) → Linked C.edges u v → ((b : ℕ) → bottom ≡ some b → v ≡ b → X) → (node_count g ≤ v → v < node_count G → X) → X
  finishes u v l k h = links u v l
      (λ p a b. h (omega arith) (omega (arith, size_g, bit-yes P p)))
      (λ s b e a d. k b e d)
      (λ i j a b. h (omega arith) (omega (arith, size_g)))
      (λ y j a b. by_b (λ s e. h (omega arith) (omega (arith, size_g, bit-yes S s))) (λ s d e f. k d e (b ∙ f)))
      (λ i j a b. by_b (λ s e. h (omega arith) (omega (arith, size_g, bit-yes S s))) (λ s d e f. k d e (b ∙ f)))

  -- some link leaves t, and some link comes to b
  from-t : (y : ℕ) × Linked C.edges t' y
  from-t = ⊎_elim {C = (y : ℕ) × Linked C.edges t' y}
      (λ x. (mv' + x.0, l₃ P S (node_count g) top bottom lefts gone prefix suffix mids x.0 x.1))
      (λ x. (b'', l₄ P S (node_count g) top bottom lefts gone prefix suffix mids x.1 x.2))
      (left_at some_mid.0 some_mid.1)

  to-b : (y : ℕ) × Linked C.edges y b''
  to-b = ⊎_elim {C = (y : ℕ) × Linked C.edges y b''}
      (λ x. (mv' + x.0, l₅ P S (node_count g) top bottom lefts gone prefix suffix mids x.0 x.1))
      (λ x. (t', l₄ P S (node_count g) top bottom lefts gone prefix suffix mids x.1 x.2))
      (left_at some_mid.0 some_mid.1)

  from-top : (y : ℕ) × Linked C.edges top y
  from-top = by_t (λ p e. (node_count g, l₁ P S (node_count g) top bottom lefts gone prefix suffix mids p)) (λ p e. rw e at from-t)

  to-bottom : (b : ℕ) → bottom ≡ some b → (y : ℕ) × Linked C.edges y b
  to-bottom b e = by_test S
      (λ s. (sv', l₂ P S (node_count g) top bottom lefts gone prefix suffix mids s b e))
      (λ s. rw (b-no s b e) at to-b)

  exit-is : (m v : ℕ) → Memᴰ m mids → HasEdge g m v → (b : ℕ) × (bottom ≡ some b) × (v ≡ b)
  exit-is m v k h = go bottom refl (only_exit m (at v) k h)
    where
      go : (o : Option ℕ) → bottom ≡ o → at v ≡ exit_of o → (b : ℕ) × (bottom ≡ some b) × (v ≡ b)
      go none e i = absurd (omega (arith, the-clash i))
        where
          the-clash : at v ≡ stop → ◌≡◌ {A = ℕ} 0 1
          the-clash i = cc
      go (some b) e i = (b, e, cc)

  local : Local g C
  unfolding split_and_update_with
  local = record {
    below = λ u v l. (
      begins u v l (λ e. rw e (old-less g bounded C top top-old)) (λ _ h. h),
      finishes u v l (λ b e d. rw d (old-less g bounded C b (bottom-old b e))) (λ _ h. h),
    );
    stays = λ u v l. (
      λ k. begins u v l (λ e. top-stays (rw e at k)) (λ h _. omega (arith, mid-old u k)),
      λ k. finishes u v l (λ b e d. bottom-stays b e (rw d at k)) (λ h _. omega (arith, mid-old v k)),
    );
    fresh = λ u v l h k. links u v l
        (λ p a b. omega arith)
        (λ s b e a d. omega arith)
        (λ i j a b. omega arith)
        (λ y j a b. by_t (λ p e. omega arith) (λ p _. by_b (λ s e. omega arith) (λ s _ _ _. ⊎_elim (λ q. clash q p) (λ q. clash q s) any_new)))
        (λ i j a b. omega arith);
    old = mid-old;
    in₁ = λ x v h k n. let e = exit-is x v k h in rw e.2 (to-bottom e.0 e.1);
    in₂ = λ y v l h. finishes y v l (λ b e d. (some_mid.0, rw d (bottom-in b e some_mid.0 some_mid.1))) (λ k _. absurd (omega arith));
    out₁ = λ u x h k n. rw (only_in u x k h) from-top;
    out₂ = λ u y l h. begins u y l (λ e. (some_mid.0, rw e (mid_in some_mid.0 some_mid.1))) (λ k _. absurd (omega arith));
  }

  abbrev E : Pt
  E = exit_of bottom

  abbrev No : Net
  No = net_of g

  abbrev U : Net
  U = part_of (keeps C.gone) G

  abbrev shr : ℕ → Bool
  shr = common g bounded C

  link' : (u v : ℕ) → Linked C.edges u v → U.Ed u v
  link' = link-U g bounded C local

  old-shr : (v : ℕ) → v < node_count g → (Memᴰ v mids → ⊥) → shr v ≡ true
  unfolding split_and_update_with
  old-shr v h n = is-common g bounded C v (keeps-other mids v n) h

  shr-old : (v : ℕ) → shr v ≡ true → v < node_count g
  shr-old v h = (common-is g bounded C v h).1

  E-kept : kept shr E ≡ true
  E-kept = go bottom refl
    where
      go : (o : Option ℕ) → bottom ≡ o → kept shr (exit_of o) ≡ true
      go none e = refl
      go (some b) e = old-shr b (bottom-old b e) (bottom-stays b e)

  -- the sequences of the new vertices
  seq-pv : P ≡ true → vertex_sequence G pv ≡ prefix
  seq-pv p = ap (vertex_sequence G) (sym (add-zero (node_count g))) ∙ (seq-grown-new g C 0 ∙ new₁ P S (node_count g) top bottom lefts gone prefix suffix mids p)

  seq-sv : S ≡ true → vertex_sequence G sv' ≡ suffix
  seq-sv s = let e : bit P + node_count g ≡ node_count g + bit P = omega arith in ap (vertex_sequence G) e
      ∙ (seq-grown-new g C (bit P) ∙ new₂ P S (node_count g) top bottom lefts gone prefix suffix mids s)

  seq-mv : (i : ℕ) → vertex_sequence G (mv' + i) ≡ get_or (map (λ p. p.remaining) lefts) i []
  seq-mv i = let e : bit S + (bit P + node_count g) + i ≡ node_count g + (bit P + (bit S + i)) = omega arith in ap (vertex_sequence G) e
      ∙ (seq-grown-new g C (bit P + (bit S + i)) ∙ new₃ P S (node_count g) top bottom lefts gone prefix suffix mids i)

  seq-b : (b : ℕ) → bottom ≡ some b → vertex_sequence G b ≡ vertex_sequence g b
  seq-b b e = seq-grown-old g C b (bottom-old b e)

  text-E : (b : ℕ) → bottom ≡ some b → text No E ≡ vertex_sequence g b
  text-E b e = ap (λ o. text No (exit_of o)) e

  -- the edges of U from a new vertex are links
  of-new : (u v : ℕ) → node_count g ≤ u → U.Ed u v → Linked C.edges u v
  of-new u v h k = of-U-new g bounded C local u v k (inl h)

  not-b : {X : Type 0} (b : ℕ) → bottom ≡ some b → bottom ≡ none → X
  not-b b e f = absurd (omega (arith, bad))
    where
      bad : ◌≡◌ {A = ℕ} 0 1
      bad = cc

  from-sv : {X : Type 0} (v : ℕ) → S ≡ true → U.Ed sv' v → ((b : ℕ) → bottom ≡ some b → v ≡ b → X) → X
  from-sv v s h k = links sv' v (of-new sv' v (omega arith) h)
      (λ p a b. absurd (omega (arith, top-old)))
      (λ _ b e a d. k b e d)
      (λ i j a b. absurd (by_t (λ p e. omega (arith, bit-yes P p)) (λ p e. omega (arith, top-old))))
      (λ y j a b. absurd (by_t (λ p e. omega (arith, bit-yes P p)) (λ p e. omega (arith, top-old))))
      (λ i j a b. absurd (omega (arith, bit-yes S s)))

  sv-new : S ≡ true → (sv' < node_count G) × (keeps C.gone sv' ≡ true)
  unfolding split_and_update_with
  sv-new s = (omega (arith, size_g, bit-yes S s), keeps-other mids sv' (λ k. omega (arith, mid-old sv' k)))

  exit-sv : S ≡ true → Steps U (at sv') E (text No E)
  exit-sv s = go bottom refl
    where
      go : (o : Option ℕ) → bottom ≡ o → Steps U (at sv') (exit_of o) (text No (exit_of o))
      go none e = single {p = at sv'} {q = stop} (sv-new s, λ w h. from-sv w s h (λ b f _. not-b b f e))
      go (some b) e = cast (seq-b b e) (single {p = at sv'} {q = at b} (link' sv' b (l₂ P S (node_count g) top bottom lefts gone prefix suffix mids s b e)))

  go-to : (b : ℕ) → bottom ≡ some b → {N : Net} {p : Pt} {s : List ℕ} → Steps N p (at b) s → Steps N p E s
  go-to b f w = let e : at b ≡ E = ap exit_of (sym f) in rw e at w

  plain : S ≡ false → (b : ℕ) → bottom ≡ some b → vertex_sequence g b ≡ suffix ++ text No E
  plain s b f = sym (text-E b f) ∙ ap (λ z. z ++ text No E) (sym (no_suffix s).0)

  out-b : (x : ℕ) → Linked C.edges x b'' → Steps U (at x) E (suffix ++ text No E)
  out-b x l = by_b
      (λ s e. cast (ap (λ z. z ++ text No E) (seq-sv s)) (step {q = at sv'} (link' x sv' (rw e at l)) (exit-sv s)))
      (λ s b f e. go-to b f (cast (seq-b b f ∙ plain s b f) (single {q = at b} (link' x b (rw e at l)))))

  to-t : Steps U (at top) (at t') prefix
  to-t = by_t
      (λ p e. rw e (cast (seq-pv p) (single {q = at pv} (link' top pv (l₁ P S (node_count g) top bottom lefts gone prefix suffix mids p)))))
      (λ p e. rw (e, no_prefix p) stay)

  cross : (m : ℕ) → Memᴰ m mids → Steps U (at top) E (vertex_sequence g m ++ text No E)
  cross m k =
      cast (rw (cuts m k, append_assoc, append_assoc))
      (then to-t (⊎_elim
      (λ x. cast (ap (λ z. z ++ (suffix ++ text No E)) (seq-mv x.0 ∙ x.2))
      (step {q = at (mv' + x.0)} (link' t' (mv' + x.0) (l₃ P S (node_count g) top bottom lefts gone prefix suffix mids x.0 x.1))
      (out-b (mv' + x.0) (l₅ P S (node_count g) top bottom lefts gone prefix suffix mids x.0 x.1))))
      (λ x. rw x.0 (out-b t' (l₄ P S (node_count g) top bottom lefts gone prefix suffix mids x.1 x.2)))
      (left_at m k)))

  forth : Forth g bounded C local
  unfolding split_and_update_with
  forth start q s x k h m w = absurd (h.1 top (mid_in x m))
  forth (at u) q s x k h m (hit {q = q'} h₂ k₂) = let e = only_exit x q' m h₂ in rw (only_in u x m h, e) (cross x m)
  forth (at u) q s x k h m (pass {q = q'} h₂ k₂ w) = let e = only_exit x q' m h₂ in clash (rw e E-kept) k₂
  forth stop q s x k h m w = absurd h

  -- the tours over the new vertices
  hit-b : (v : ℕ) → v ≡ b'' → shr v ≡ true → (at v ≡ E) × (U.lab v ≡ suffix ++ text No E)
  hit-b v e t = by_b
      (λ s f. absurd (omega (arith, shr-old v t)))
      (λ s b f i. let j = e ∙ i in (ap at j ∙ ap exit_of (sym f), ap (vertex_sequence G) j ∙ (seq-b b f ∙ plain s b f)))

  tour-sv : S ≡ true → {q : Pt} {s : List ℕ} → Tour U shr (at sv') q s → (q ≡ E) × (s ≡ text No E)
  tour-sv s (hit {q = start} h k) = absurd h
  tour-sv s (hit {q = at v} h k) = from-sv v s h λ b e i. (ap at i ∙ ap exit_of (sym e), ap (vertex_sequence G) i ∙ (seq-b b e ∙ sym (text-E b e)))
  tour-sv s (hit {q = stop} h k) = go bottom refl
    where
      go : (o : Option ℕ) → bottom ≡ o → (stop ≡ exit_of o) × ([] ≡ text No (exit_of o))
      go none e = (refl, refl)
      go (some b) e = absurd (h.1 b (link' sv' b (l₂ P S (node_count g) top bottom lefts gone prefix suffix mids s b e)))
  tour-sv s (pass {q = start} h k w) = absurd h
  tour-sv s (pass {q = at v} h k w) = from-sv v s h λ b e i. clash (old-shr b (bottom-old b e) (bottom-stays b e)) (rw i at k)
  tour-sv s (pass {q = stop} h k w) = absurd (true≢false k)

  pass-b : (v : ℕ) {q : Pt} {s : List ℕ} → v ≡ b'' → shr v ≡ false → Tour U shr (at v) q s → (q ≡ E) × (U.lab v ++ s ≡ suffix ++ text No E)
  pass-b v {q} {s} e t w = by_b
      (λ y f. let j = e ∙ f in let z = tour-sv y (rw j at w) in (z.0, rw (j, seq-sv y, z.1)))
      (λ y b f i. clash (old-shr b (bottom-old b f) (bottom-stays b f)) (rw (e ∙ i) at t))

  from-mv : {X : Type 0} (i v : ℕ) → i < length lefts → U.Ed (mv' + i) v → (v ≡ b'' → X) → X
  from-mv i v n h k = links (mv' + i) v (of-new (mv' + i) v (omega arith) h)
      (λ p a b. absurd (omega (arith, top-old)))
      (λ s b e a d. absurd (omega (arith, bit-yes S s)))
      (λ j m a b. absurd (by_t (λ p e. omega (arith, bit-yes P p)) (λ p e. omega (arith, top-old))))
      (λ y j a b. absurd (by_t (λ p e. omega (arith, bit-yes P p)) (λ p e. omega (arith, top-old))))
      (λ j m a b. k b)

  tour-mv : (i : ℕ) → i < length lefts → {q : Pt} {s : List ℕ} → Tour U shr (at (mv' + i)) q s → (q ≡ E) × (s ≡ suffix ++ text No E)
  tour-mv i n (hit {q = start} h k) = absurd h
  tour-mv i n (hit {q = at v} h k) = from-mv i v n h λ e. hit-b v e k
  tour-mv i n (hit {q = stop} h k) = absurd (h.1 b'' (link' (mv' + i) b'' (l₅ P S (node_count g) top bottom lefts gone prefix suffix mids i n)))
  tour-mv i n (pass {q = start} h k w) = absurd h
  tour-mv i n (pass {q = at v} h k w) = from-mv i v n h λ e. pass-b v e k w
  tour-mv i n (pass {q = stop} h k w) = absurd (true≢false k)

  -- a tour comes out where some middle would
  Out : Pt → List ℕ → Type 0
  Out q s = (m : ℕ) × Memᴰ m mids × (q ≡ E) × (s ≡ part m ++ (suffix ++ text No E))

  from-t' : {X : Type 0} (v : ℕ) → Linked C.edges t' v → ((i : ℕ) → i < length lefts → v ≡ mv' + i → X) → ((l : EdgeData) → gone ≡ some l → v ≡ b'' → X) → X
  from-t' v l k h = links t' v l
      (λ p a b. absurd (omega (arith, t-yes p, top-old)))
      (λ s b e a d. absurd (by_t (λ p e. omega (arith, bit-yes P p)) (λ p e. omega (arith, top-old))))
      (λ i j a b. k i j b)
      (λ y j a b. h y j b)
      (λ i j a b. absurd (by_t (λ p e. omega (arith, bit-yes P p)) (λ p e. omega (arith, top-old))))

  -- behind t: over a new middle, or straight on
  behind-hit : (v : ℕ) → Linked C.edges t' v → shr v ≡ true → Out (at v) (U.lab v)
  unfolding Out
  behind-hit v l t = from-t' v l
      (λ i n e. absurd (omega (arith, shr-old v t)))
      (λ y j e. let m = of_gone y j in let z = hit-b v e t in (m.0, m.1, z.0, z.1 ∙ ap (λ x. x ++ (suffix ++ text No E)) (sym m.2)))

  behind-pass : (v : ℕ) → Linked C.edges t' v → shr v ≡ false → {q : Pt} {s : List ℕ} → Tour U shr (at v) q s → Out q (U.lab v ++ s)
  unfolding Out
  behind-pass v l t w = from-t' v l
      (λ i n e. let m = of_left i n in let z = tour-mv i n (rw e at w) in (m.0, m.1, z.0, rw (e, seq-mv i, m.2, z.1)))
      (λ y j e. let m = of_gone y j in let z = pass-b v e t w in (m.0, m.1, z.0, z.1 ∙ ap (λ x. x ++ (suffix ++ text No E)) (sym m.2)))

  tour-pv : P ≡ true → {q : Pt} {s : List ℕ} → Tour U shr (at pv) q s → Out q s
  tour-pv p (hit {q = start} h k) = absurd h
  tour-pv p (hit {q = at v} h k) = behind-hit v (rw (t-yes p) (of-new pv v (omega arith) h)) k
  tour-pv p (hit {q = stop} h k) = absurd (h.1 from-t.0 (link' pv from-t.0 (rw (t-yes p) at from-t.1)))
  tour-pv p (pass {q = start} h k w) = absurd h
  tour-pv p (pass {q = at v} h k w) = behind-pass v (rw (t-yes p) (of-new pv v (omega arith) h)) k w
  tour-pv p (pass {q = stop} h k w) = absurd (true≢false k)

  over : (q : Pt) (x : List ℕ) → Out q x → Steps No (at top) q (prefix ++ x)
  unfolding Out
  over q x (m, k, e, f) =
      rw (e, f) (cast (rw (cuts m k, append_assoc, append_assoc)) (step {q = at m} (mid_in m k) (single {p = at m} {q = E} (exits m k))))

  -- a new vertex is the prefix, the suffix or what is left of a middle; each has a link to it
  linked_to : (y : ℕ) → node_count g ≤ y → y < node_count G → (x : ℕ) × Linked C.edges x y
  linked_to y a b = by_order mv' y
      (λ h. let e : mv' + (y - mv') ≡ y = omega arith in
      (t', rw e at (l₃ P S (node_count g) top bottom lefts gone prefix suffix mids (y - mv') (omega (arith, size_g)))))
      (λ h. by_test S
      (λ s. by_order sv' y
      (λ k. let e : y ≡ b'' = omega (arith, b-yes s, bit-yes S s) in rw e to-b)
      (λ k. by_t
      (λ p _. let e : y ≡ node_count g = omega (arith, bit-yes P p) in (top, rw e (l₁ P S (node_count g) top bottom lefts gone prefix suffix mids p)))
      (λ p _. absurd (omega (arith, bit-no P p)))))
      (λ s. by_t
      (λ p _. let e : y ≡ node_count g = omega (arith, bit-yes P p, bit-no S s) in (top, rw e (l₁ P S (node_count g) top bottom lefts gone prefix suffix mids p)))
      (λ p _. absurd (omega (arith, bit-no P p, bit-no S s)))))

  back : Back g bounded C local
  back start q s y k h n w = let z = linked_to y n h.0.0 in absurd (h.1 z.0 (link' z.0 y z.1))
  back (at u) q s y k h n w =
      let l = of-U-new g bounded C local u y h (inr n) in
      begins u y l (λ e. rw e (out y n (rw e at l) w)) (λ a _. absurd (omega (arith, shr-old u k)))
    where
      out : (y : ℕ) → node_count g ≤ y → Linked C.edges top y → Tour U shr (at y) q s → Steps No (at top) q (vertex_sequence G y ++ s)
      out y n l w = by_t
          (λ p e. links top y l
          (λ _ a b. rw (b, seq-pv p) (over q s (tour-pv p (rw b at w))))
          (λ z b f a d. absurd (omega (arith, top-old)))
          (λ i j a b. absurd (omega (arith, top-old)))
          (λ z j a b. absurd (omega (arith, top-old)))
          (λ i j a b. absurd (omega (arith, top-old))))
          (λ p e. cast (ap (λ x. x ++ (vertex_sequence G y ++ s)) (no_prefix p))
          (over q (vertex_sequence G y ++ s) (behind-pass y (rw e l) (by_test (shr y) (λ t. absurd (omega (arith, shr-old y t))) (λ t. t))
          w)))
  back stop q s y k h n w = absurd h

  pub split-spells : {s : List ℕ} → Spells g s ↔ Spells (apply_change g C) s
  split-spells = spells-change g bounded C local forth back

  -- a rank for the new vertices: between top and bottom there is room in four times the old one
  rise : ℕ → ℕ
  rise v = cond (P && eqb v pv) 1 (cond (S && eqb v sv') 3 2)

  rank_g : ℕ → ℕ
  rank_g v = cond (ltb v (node_count g)) (4 * r v) (4 * r top + rise v)

  rank-old : (v : ℕ) → v < node_count g → rank_g v ≡ 4 * r v
  unfolding rank_g
  rank-old v h = rw (lt-ltb v (node_count g) h)

  rank-new : (v : ℕ) → node_count g ≤ v → rank_g v ≡ 4 * r top + rise v
  unfolding rank_g
  rank-new v h = rw (le-ltb v (node_count g) h)

  rank-pv : P ≡ true → rank_g pv ≡ 4 * r top + 1
  unfolding rise
  rank-pv p = rank-new pv (omega arith) ∙ rw (p, eq-eqb pv pv refl)

  rank-sv : S ≡ true → rank_g sv' ≡ 4 * r top + 3
  unfolding rise
  rank-sv s = rank-new sv' (omega arith) ∙ rw (
    and-off P (eqb sv' pv) (λ p. ne_eqb sv' pv (λ e. omega (arith, bit-yes P p))),
    and-true S (eqb sv' sv') s (eq-eqb sv' sv' refl),
  )

  rank-mv : (i : ℕ) → rank_g (mv' + i) ≡ 4 * r top + 2
  unfolding rise
  rank-mv i = rank-new (mv' + i) (omega arith) ∙ rw (
    and-off P (eqb (mv' + i) pv) (λ p.
        ne_eqb (mv' + i) pv (λ e. omega (arith, bit-yes P p))),
    and-off S (eqb (mv' + i) sv') (λ s. ne_eqb (mv' + i) sv' (λ e. omega (arith, bit-yes S s))),
  )

  rank-b : (b : ℕ) → bottom ≡ some b → (rank_g b ≡ 4 * r b) × (r top + 2 ≤ r b)
  rank-b b e = (
    rank-old b (bottom-old b e),
    omega (
      arith,
      ranks top some_mid.0 (mid_in some_mid.0 some_mid.1),
      ranks some_mid.0 b (bottom-in b e some_mid.0 some_mid.1),
    ),
  )

  rank-t : (rank_g t' ≤ 4 * r top + 1)
  rank-t = by_t (λ p e. omega (arith, rank-pv p, ap rank_g e)) (λ p e. omega (arith, rank-old top top-old, ap rank_g e))

  rank-b'' : 4 * r top + 3 ≤ rank_g b''
  rank-b'' = by_b (λ s e. omega (arith, rank-sv s, ap rank_g e)) (λ s b f e. omega (arith, rank-b b f, ap rank_g e))

  ranks_g : Ranks G rank_g
  ranks_g u v h = of-grown g bounded C u v h
      (λ l. let b = old-edge u v l in omega (arith, rank-old u b.0, rank-old v b.1, ranks u v l))
      (λ l. links u v l
      (λ p a b. omega (arith, ap rank_g a, ap rank_g b, rank-pv p, rank-old top top-old))
      (λ s b e a d. omega (arith, ap rank_g a, ap rank_g d, rank-sv s, rank-b b e))
      (λ i j a b. omega (arith, ap rank_g a, ap rank_g b, rank-t, rank-mv i))
      (λ y j a b. omega (arith, ap rank_g a, ap rank_g b, rank-t, rank-b''))
      (λ i j a b. omega (arith, ap rank_g a, ap rank_g b, rank-mv i, rank-b'')))

  pub split-ranks : (r' : ℕ → ℕ) × Ranks (apply_change g C) r'
  split-ranks = ranks-change g bounded C local rank_g ranks_g

  pub split-bounded : Bounded (apply_change g C)
  split-bounded = bounded-change g bounded C local

  pub split-keeps : Keeps g (apply_change g C)
  split-keeps = record { sound = record { bounded = split-bounded; rank = split-ranks.0; ranks = split-ranks.1 }; spells = λ s. split-spells }

  pub split-weight : (f : List ℕ → ℕ) → Distinct mids → total f (apply_change g C).verts + total (λ v. f (vertex_sequence g v)) mids
      ≡ total f g.verts + total f C.verts
  unfolding split_and_update_with
  split-weight f d = weight-change g bounded C local f d

  pub split-order : Distinct mids → node_count (apply_change g C) + length mids ≡ node_count g + (bit P + (bit S + length lefts))
  unfolding split_and_update_with
  split-order d = order-change g bounded C local d ∙ ap (λ z. node_count g + z) (size P S (node_count g) top bottom lefts gone prefix suffix mids)

  -- a new vertex leads on, but for the suffix of tails
  new-out : {X : Type 0} (y : ℕ) → node_count g ≤ y → y < node_count G → (y ≡ sv' → bottom ≡ none → X) → ((w : ℕ) → Linked C.edges y w → X) → X
  new-out {X} y a d f k = by_order mv' y
      (λ h. let e : y ≡ mv' + (y - mv') = omega arith in
      k b'' (rw e (l₅ P S (node_count g) top bottom lefts gone prefix suffix mids (y - mv') (omega (arith, size_g)))))
      (λ h. by_order sv' y
      (λ i. by_test S
      (λ s. let e : y ≡ sv' = omega (arith, bit-yes S s) in at-suffix s e bottom refl)
      (λ s. absurd (omega (arith, bit-no S s))))
      (λ i. by_t
      (λ p q. let e : y ≡ t' = omega (arith, bit-yes P p) in k from-t.0 (rw e from-t.1))
      (λ p q. absurd (omega (arith, bit-no P p)))))
    where
      at-suffix : S ≡ true → y ≡ sv' → (o : Option ℕ) → bottom ≡ o → X
      at-suffix s e none q = f e q
      at-suffix s e (some b) q = k b (rw e (l₂ P S (node_count g) top bottom lefts gone prefix suffix mids s b q))

  one_none : bottom ≡ none → 1 ≤ bit (is_none bottom)
  unfolding is_none bit
  one_none e = rw e (omega arith)

  split-sink : (v : ℕ) → IsSink U v → ((v < node_count g) × ((w : ℕ) → HasEdge g v w → ⊥)) ⊎ ((v ≡ sv') × (1 ≤ bit (is_none bottom)))
  split-sink v h = by_order (node_count g) v
      (λ l. new-out v l h.0.0 (λ e q. inr (e, one_none q)) (λ w k. absurd (h.1 w (link' v w k))))
      (λ l. inl (l, sink-old g bounded C local v l h))

  pub sinks-split : Distinct mids → sinks (apply_change g C) + total (λ v. bit (ends g v)) mids ≤ sinks g + bit (is_none bottom)
  unfolding apply_change remove_vertices_by_id split_and_update_with
  sinks-split d = sinks-by g G mids sv' (bit (is_none bottom)) (omega (arith, size_g)) d mid-old split-sink

  -- while all is added and nothing has gone yet
  pub split-room : Distinct mids → (node_count G ≤ node_count (apply_change g C) + node_count g)
      × (length G.edges ≤ length (apply_change g C).edges + length g.edges)
  unfolding split_and_update_with
  split-room d = (verts-local g bounded C local d, edges-local g bounded C local)
