-- The edges of `split_and_update_with` join none of the old edges, and each other only from prefix to suffix: they stand behind the old ones.
-- Assumes nothing.
use mathlib.Core.Path.{◌≡◌, refl, sym, ap, ◌∙◌}
use mathlib.Core.Bool.{Bool, true, false, cond, not, ◌&&◌, ◌||◌}
use mathlib.Core.Option.{Option, none, some}
use mathlib.Core.List.Memᴰ
use mathlib.Core.List.{List, [], ◌∷◌, ◌++◌, append_assoc, append-nil}
use Prim.Native.Nat.{ℕ, suc, ◌+◌, ◌≤◌, ◌<◌, min}
use native.Mathlib.Omega.{arith}
use lib.ListN.{length}
use lib.Dec.{ltb}
use borrow.Author.Tests.{le-ltb}
use Rattle.defs.specs.Lists.{bit}
use Rattle.defs.specs.SeqGraph.{Edge, has_ends, add_or_update_edge, add_or_update_edges, saturating_add, EdgeData, edge_data, new_edge, joined_data}
use Rattle.defs.specs.Rewrites.{MidPlan, support_one, new_edge_if, only_if, or_else, is_none, is_ref_if, edges_to_middles}
use Rattle.defs.specs.Rewrites.{edges_from_middles, prefix_to_suffix, prefix_to_suffix_from, split_and_update_with}
use Rattle.laws.proofs.Walks.{by_test}
use Rattle.laws.proofs.ListLaws.{and_split, or-none, bit-yes}
use Rattle.laws.proofs.Edges.{Linked, linked-tail, raise-yes, raise-no, joins-ends}
use Rattle.laws.proofs.Counts.{Single, ends_join}
use Rattle.laws.proofs.SplitCounts.{raise_all-append}
use Rattle.laws.proofs.SplitWith as W
use Rattle.laws.proofs.SplitWith.{linked-append, of-only, of_one, of-links_into, of-links_from, of-link_maybe}
use Rattle.split_and_update.specs.Ends.{any_ref, nothing, update_edges, is_cons}
use Rattle.split_and_update.specs.declared.Places.{Places}

-- ---- edges with new ends

raise-new : (u v : ℕ) (d : EdgeData) (es : List Edge) → (Linked es u v → ⊥) → add_or_update_edge u v d es ≡ es ++ (new_edge u v d ∷ [])
unfolding add_or_update_edge
raise-new u v d [] h = refl
raise-new u v d (e ∷ es) h = by_test (has_ends u v e)
    (λ t. let q = joins-ends u v e t in absurd (h (e, Memᴰ.head refl, q.0, q.1)))
    (λ t. raise-no u v d e es t ∙ ap (λ (l : List Edge). e ∷ l) (raise-new u v d es (λ l. h (linked-tail u v l))))

-- the edge e has the ends already
raise-past : (u v : ℕ) (d : EdgeData) (x : List Edge) (e : Edge) (y : List Edge) → (Linked x u v → ⊥) → has_ends u v e ≡ true
    → add_or_update_edge u v d (x ++ (e ∷ y)) ≡ x ++ (new_edge e.from e.to (joined_data (edge_data e) d) ∷ y)
raise-past u v d [] e y h q = raise-yes u v d e y q
raise-past u v d (f ∷ x) e y h q = by_test (has_ends u v f)
    (λ t. let z = joins-ends u v f t in absurd (h (f, Memᴰ.head refl, z.0, z.1)))
    (λ t. raise-no u v d f (x ++ (e ∷ y)) t ∙ ap (λ (l : List Edge). f ∷ l) (raise-past u v d x e y (λ l. h (linked-tail u v l)) q))

raise-fresh : (ns es : List Edge) → Single ns → ((u v : ℕ) → Linked ns u v → Linked es u v → ⊥) → add_or_update_edges ns es ≡ es ++ ns
unfolding add_or_update_edges edge_data new_edge
raise-fresh [] es s h = sym (append-nil es)
raise-fresh (n ∷ ns) es s h =
    ap (add_or_update_edges ns) (raise-new n.from n.to (edge_data n) es (λ l. h n.from n.to (n, Memᴰ.head refl, refl, refl) l))
    ∙ raise-fresh ns (es ++ (n ∷ [])) s.1 (λ u v a b. linked-append es (n ∷ []) u v b (λ l. h u v (linked-tail u v a) l) (λ l. let q =
    of_one n u v l in s.0 (rw (q.0, q.1) at a)))
    ∙ append_assoc es (n ∷ []) ns

single-append : (xs ys : List Edge) → Single xs → Single ys → ((u v : ℕ) → Linked xs u v → Linked ys u v → ⊥) → Single (xs ++ ys)
single-append [] ys sx sy h = sy
single-append (e ∷ xs) ys sx sy h = (
  λ l. linked-append xs ys e.from e.to l sx.0 (λ k. h e.from e.to (e, Memᴰ.head refl, refl, refl) k),
  single-append xs ys sx.1 sy (λ u v p q. h u v (linked-tail u v p) q),
)

single-only : (t : Bool) (e : Edge) → Single (only_if t (e ∷ []))
unfolding only_if
single-only true e = (λ l. Memᴰ.not-nil l.1, tt)
single-only false e = tt

single-if : (u v : ℕ) (o : Option EdgeData) → Single (new_edge_if u v o)
unfolding new_edge_if
single-if u v none = tt
single-if u v (some d) = (λ l. Memᴰ.not-nil l.1, tt)

single-to : (u j : ℕ) (l : List MidPlan) → Single (edges_to_middles u j l)
unfolding edges_to_middles new_edge
single-to u j [] = tt
single-to u j (m ∷ l) = (λ k. let z = of-links_into u (suc j) l u j k in omega (arith, z.3), single-to u (suc j) l)

single-from : (u j : ℕ) (l : List MidPlan) → Single (edges_from_middles j u l)
unfolding edges_from_middles new_edge
single-from u j [] = tt
single-from u j (m ∷ l) = (λ k. let z = of-links_from (suc j) u l j u k in omega (arith, z.3), single-from u (suc j) l)

-- ---- the edge from prefix to suffix, once more where there is a prefix

abbrev once : Bool → EdgeData → EdgeData
once P d = cond P (joined_data d d) d

twice_if : Bool → Option EdgeData → Option EdgeData
twice_if P none = none
twice_if P (some d) = some (once P d)

join_last : (P : Bool) (o : Option EdgeData) (u v : ℕ) (x y : List Edge) → (Linked x u v → ⊥)
    → add_or_update_edges (only_if P (new_edge_if u v o)) (x ++ (new_edge_if u v o ++ y)) ≡ x ++ (new_edge_if u v (twice_if P o) ++ y)
unfolding only_if new_edge_if add_or_update_edges twice_if new_edge edge_data
join_last false none u v x y h = refl
join_last false (some d) u v x y h = refl
join_last true none u v x y h = refl
join_last true (some d) u v x y h =
    raise-past u v d x (new_edge u v d) y h (ends_join u v (new_edge u v d) refl refl)

-- ---- what the edge from prefix to suffix carries, gathered from nothing

joined-nothing : (a b : EdgeData) → joined_data nothing (joined_data a b) ≡ joined_data a b
unfolding joined_data saturating_add
joined-nothing a b = λ i. record { support = least i; is_ref = a.is_ref || b.is_ref; capped = (ap (λ (x : Bool). mark || x) fits ∙ sym (or-none mark)) i }
  where
    least : min (0 + min (a.support + b.support) 4294967295) 4294967295 ≡ min (a.support + b.support) 4294967295
    least = omega arith

    mark : Bool
    mark = (a.capped || b.capped) || ltb 4294967295 (a.support + b.support)

    fits : ltb 4294967295 (0 + min (a.support + b.support) 4294967295) ≡ false
    fits = le-ltb 4294967295 (0 + min (a.support + b.support) 4294967295) (omega arith)

gathered-ref : (l : List MidPlan) → is_ref_if (prefix_to_suffix l) ≡ (prefix_to_suffix_from nothing l).is_ref
unfolding is_ref_if prefix_to_suffix prefix_to_suffix_from
gathered-ref [] = refl
gathered-ref (m ∷ l) = ap (λ (d : EdgeData). (prefix_to_suffix_from d l).is_ref) (sym (joined-nothing m.to_mid m.from_mid))

gathered-edge : (P : Bool) (u v : ℕ) (l : List MidPlan) → new_edge_if u v (twice_if P (prefix_to_suffix l))
    ≡ only_if (is_cons l) (new_edge u v (once P (prefix_to_suffix_from nothing l)) ∷ [])
unfolding new_edge_if twice_if prefix_to_suffix prefix_to_suffix_from only_if is_cons
gathered-edge P u v [] = refl
gathered-edge P u v (m ∷ l) =
    ap (λ (a : EdgeData). new_edge u v (once P (prefix_to_suffix_from a l)) ∷ [])
    (sym (joined-nothing m.to_mid m.from_mid))

-- ---- all of them

upper-less : (P : Bool) (n top : ℕ) → top < n → cond P n top < bit P + n
unfolding bit
upper-less true n top h = omega arith
upper-less false n top h = omega arith

upper_is : (P : Bool) (n top : ℕ) → P ≡ true → cond P n top ≡ n
upper_is P n top h = rw h

lower-less : (P S : Bool) (n b : ℕ) → b < n → cond S (bit P + n) b < bit S + (bit P + n)
unfolding bit
lower-less P true n b h = omega arith
lower-less P false n b h = omega arith

lower-is : (P S : Bool) (n b : ℕ) → S ≡ true → cond S (bit P + n) b ≡ bit P + n
lower-is P S n b h = rw h

or-else : (P S : Bool) → (P || S) ≡ true → P ≡ false → S ≡ true
or-else P S h t = rw t at h

some_is : (o : Option ℕ) (d : ℕ) → o ≡ some d → or_else 0 o ≡ d
unfolding or_else
some_is o d e = ap (or_else 0) e

module _ (P S : Bool) (n top : ℕ) (bottom : Option ℕ) (lefts others : List MidPlan) (prefix suffix mids : List ℕ) (es : List Edge)
    (top-old : top < n) (bottom-old : or_else 0 bottom < n) (old : (u v : ℕ) → Linked es u v → (u < n) × (v < n)) (any : (P || S) ≡ true) where
  abbrev gone : Option EdgeData
  gone = prefix_to_suffix others

  abbrev b₀ : ℕ
  b₀ = or_else 0 bottom

  abbrev sv : ℕ
  sv = bit P + n

  abbrev mv : ℕ
  mv = bit S + (bit P + n)

  abbrev t : ℕ
  t = cond P n top

  abbrev b : ℕ
  b = cond S (bit P + n) b₀

  abbrev f₁ : Edge
  f₁ = W.first P S n top bottom lefts gone prefix suffix mids

  abbrev f₂ : Edge
  f₂ = W.last P S n top bottom lefts gone prefix suffix mids

  abbrev linked : Bool
  linked = S && not (is_none bottom)

  abbrev e₁ : List Edge
  e₁ = only_if P (f₁ ∷ [])

  abbrev e₂ : List Edge
  e₂ = only_if linked (f₂ ∷ [])

  abbrev e₃ : List Edge
  e₃ = edges_to_middles t mv lefts

  abbrev e₄ : List Edge
  e₄ = new_edge_if t b gone

  abbrev e₅ : List Edge
  e₅ = edges_from_middles mv b lefts

  in₁ : (u v : ℕ) → Linked e₁ u v → (P ≡ true) × ((u ≡ top) × (v ≡ n))
  unfolding new_edge
  in₁ u v l = let a = of-only P (f₁ ∷ []) u v l in (a.0, of_one f₁ u v a.1)

  in₂ : (u v : ℕ) → Linked e₂ u v → (sv < mv) × (u ≡ sv)
  unfolding new_edge
  in₂ u v l =
      let a = of-only linked (f₂ ∷ []) u v l in
      let s = and_split S (not (is_none bottom)) a.0 in
      (omega (arith, bit-yes S s.0), (of_one f₂ u v a.1).0)

  in₃ : (u v : ℕ) → Linked e₃ u v → (u ≡ t) × (mv ≤ v)
  in₃ u v l = let a = of-links_into t mv lefts u v l in (a.0, omega (arith, a.3))

  in₄ : (u v : ℕ) → Linked e₄ u v → (u ≡ t) × (v ≡ b)
  in₄ u v l = let a = of-link_maybe t b gone u v l in (a.2, a.3)

  in₅ : (u v : ℕ) → Linked e₅ u v → mv ≤ u
  in₅ u v l = let a = of-links_from mv b lefts u v l in omega (arith, a.3)

  t-less : t < sv
  t-less = upper-less P n top top-old

  b-less : b < mv
  b-less = lower-less P S n b₀ bottom-old

  new : List Edge
  new = e₁ ++ (e₂ ++ (e₃ ++ (e₄ ++ e₅)))

  apart₄ : (u v : ℕ) → Linked e₄ u v → Linked e₅ u v → ⊥
  apart₄ u v k l = omega (arith, (in₄ u v k).0, in₅ u v l, t-less)

  apart₃ : (u v : ℕ) → Linked e₃ u v → Linked (e₄ ++ e₅) u v → ⊥
  apart₃ u v k l = linked-append e₄ e₅ u v l (λ h. omega (arith, (in₃ u v k).1, (in₄ u v h).1, b-less)) (λ h. omega (arith, (in₃ u v k).0, in₅ u v h, t-less))

  apart₂ : (u v : ℕ) → Linked e₂ u v → Linked (e₃ ++ (e₄ ++ e₅)) u v → ⊥
  apart₂ u v k l = linked-append e₃ (e₄ ++ e₅) u v l
      (λ h. omega (arith, (in₂ u v k).1, (in₃ u v h).0, t-less))
      (λ l'. linked-append e₄ e₅ u v l' (λ h. omega (arith, (in₂ u v k).1, (in₄ u v h).0, t-less)) (λ h. omega (arith, in₂ u v k, in₅ u v h)))

  apart₁ : (u v : ℕ) → Linked e₁ u v → Linked (e₂ ++ (e₃ ++ (e₄ ++ e₅))) u v → ⊥
  apart₁ u v k l =
      let q = in₁ u v k in
      let z = upper_is P n top q.0 in
      linked-append e₂ (e₃ ++ (e₄ ++ e₅)) u v l (λ h. omega (arith, q.1.0, (in₂ u v h).1, top-old))
      (λ l₃. linked-append e₃ (e₄ ++ e₅) u v l₃ (λ h. omega (arith, q.1.0, (in₃ u v h).0, z, top-old))
      (λ l₄. linked-append e₄ e₅ u v l₄ (λ h. omega (arith, q.1.0, (in₄ u v h).0, z, top-old)) (λ h. omega (arith, q.1.0, in₅ u v h, top-old))))

  -- the edge from prefix to suffix has a new end
  between-new : t < n → b < n → ⊥
  between-new h k = by_test P (λ p. omega (arith, upper_is P n top p)) (λ p. omega (arith, lower-is P S n b₀ (or-else P S any p)))

  apart₀ : (u v : ℕ) → Linked new u v → Linked es u v → ⊥
  unfolding new
  apart₀ u v l o =
      let a = old u v o in
      linked-append e₁ (e₂ ++ (e₃ ++ (e₄ ++ e₅))) u v l (λ h. omega (arith, (in₁ u v h).1.1, a.1))
      (λ l₂. linked-append e₂ (e₃ ++ (e₄ ++ e₅)) u v l₂ (λ h. omega (arith, (in₂ u v h).1, a.0))
      (λ l₃. linked-append e₃ (e₄ ++ e₅) u v l₃ (λ h. omega (arith, (in₃ u v h).1, a.1))
      (λ l₄. linked-append e₄ e₅ u v l₄ (λ h. let q = in₄ u v h in between-new (omega (arith, q.0, a.0)) (omega (arith, q.1, a.1)))
      (λ h. omega (arith, in₅ u v h, a.0)))))

  single : Single new
  unfolding new
  single = single-append e₁ (e₂ ++ (e₃ ++ (e₄ ++ e₅))) (single-only P f₁)
      (single-append e₂ (e₃ ++ (e₄ ++ e₅)) (single-only linked f₂) (single-append e₃ (e₄ ++ e₅) (single-to t mv lefts)
      (single-append e₄ e₅ (single-if t b gone) (single-from b mv lefts) apart₄) apart₃) apart₂) apart₁

  abbrev before : List Edge
  before = es ++ (e₁ ++ (e₂ ++ e₃))

  before-apart : Linked before t b → ⊥
  before-apart l = linked-append es (e₁ ++ (e₂ ++ e₃)) t b l (λ o. let a = old t b o in between-new a.0 a.1)
      (λ l₁. linked-append e₁ (e₂ ++ e₃) t b l₁ (λ h. let q = in₁ t b h in omega (arith, upper_is P n top q.0, q.1.0, top-old))
      (λ l₂. linked-append e₂ e₃ t b l₂ (λ h. omega (arith, (in₂ t b h).1, t-less)) (λ h. omega (arith, (in₃ t b h).1, b-less))))

  abbrev places : Places
  places = record { top = top; bottom = b₀; prefix = n; suffix = sv; middles = mv; prefixed = P; suffixed = S; linked = linked; consumed = is_cons others }

  pub split-edges : add_or_update_edges (split_and_update_with P S n top bottom lefts gone prefix suffix mids).edges es ≡ es
      ++ update_edges places lefts (prefix_to_suffix_from nothing others)
  unfolding split_and_update_with update_edges new
  split-edges =
      ap (λ (l : List Edge). add_or_update_edges l es) shape
      ∙ raise_all-append new (only_if P e₄) es
      ∙ ap (add_or_update_edges (only_if P e₄)) (raise-fresh new es single apart₀ ∙ regroup es e₁ e₂ e₃ (e₄ ++ e₅))
      ∙ join_last P gone t b before e₅ before-apart
      ∙ sym (regroup es e₁ e₂ e₃ (new_edge_if t b (twice_if P gone) ++ e₅))
      ∙ (λ i. es ++ (only_if P (new_edge top n (support_one (any_ref 1 lefts || gathered-ref others i)) ∷ [])
      ++ (only_if linked (new_edge sv b₀ (support_one (any_ref 0 lefts || gathered-ref others i)) ∷ [])
      ++ (e₃ ++ (gathered-edge P t b others i ++ e₅)))))
    where
      shape : e₁ ++ (e₂ ++ (e₃ ++ (e₄ ++ (e₅ ++ only_if P e₄)))) ≡ (e₁ ++ (e₂ ++ (e₃ ++ (e₄ ++ e₅)))) ++ only_if P e₄
      shape = sym (simp append_assoc)

      regroup : (x a c d r : List Edge) → x ++ (a ++ (c ++ (d ++ r))) ≡ (x ++ (a ++ (c ++ d))) ++ r
      regroup x a c d r = sym (simp append_assoc)

  -- the ends of the new edges are old or new vertices
  pub split_below : (u v : ℕ) → Linked (split_and_update_with P S n top bottom lefts gone prefix suffix mids).edges u v
      → (u < mv + length lefts) × (v < mv + length lefts)
  split_below u v l = W.of-links P S n top bottom lefts gone prefix suffix mids u v l
      (λ p q r. (omega (arith, top-old), omega (arith, bit-yes P p)))
      (λ s d e q r. (omega (arith, bit-yes S s), omega (arith, bottom-old, some_is bottom d e)))
      (λ i h q r. (omega (arith, t-less), omega arith))
      (λ d e q r. (omega (arith, t-less), omega (arith, b-less)))
      (λ i h q r. (omega arith, omega (arith, b-less)))
