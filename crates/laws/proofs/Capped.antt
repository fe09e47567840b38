-- Edges joined: in any order they carry the same; the mark of a capped support is there exactly when one of them had it or the true sum of
-- the supports passes 2^32 - 1. And the signature does not see the mark.
-- Assumes nothing.
use Prim.Native.Nat.{ℕ, ◌+◌, ◌≤◌, ◌<◌, min}
use native.Mathlib.Omega.{arith}
use mathlib.Core.Path.{◌≡◌, refl, sym, ap, ◌∙◌}
use mathlib.Core.Logic.{◌⊎◌, inl, inr, ⊎_elim, ◌↔◌}
use mathlib.Core.Bool.{Bool, true, false, ◌||◌}
use mathlib.Core.Option.{Option, none, some, some-injective}
use mathlib.Core.List.{List, [], ◌∷◌, ◌++◌, map, Memᴰ}
use lib.Dec.{ltb}
use lib.ListN.{length, length-map}
use borrow.Author.Tests.{ltb-true, ltb-false, lt-ltb, le-ltb}
use Rattle.defs.specs.Lists.{any_of, sum, bit, concat}
use Rattle.defs.specs.SeqGraph.{Edge, Graph, EdgeData, saturating_add, joined_data, node_count}
use Rattle.defs.specs.Simplify.{graph_topology_signature}
use Rattle.defs.specs.Joined.{joined_from, true_sum, IsJoinOf, Reordered, keep, swap, then}
use Rattle.laws.proofs.Walks.{by_test}
use Rattle.laws.proofs.ListLaws.{or-none, or_cases, or_left, or_right, any-yes, any-no}
use Rattle.laws.proofs.Cycles.{any_of-true, any_of-mem}

-- ---- tests

or_comm : (p q : Bool) → (p || q) ≡ (q || p)
or_comm true true = refl
or_comm true false = refl
or_comm false true = refl
or_comm false false = refl

or_assoc : (p q r : Bool) → ((p || q) || r) ≡ (p || (q || r))
or_assoc true q r = refl
or_assoc false q r = refl

-- past 2^32 - 1
abbrev over : ℕ → Bool
over n = ltb 4294967295 n

-- the sum of two passes it, or what was kept of it and a third do: the sum of the three does
over-then : (m c : ℕ) → (over m || over (min m 4294967295 + c)) ≡ over (m + c)
over-then m c = by_test (over m)
    (λ t. rw t (sym (lt-ltb 4294967295 (m + c) (omega (arith, ltb-true 4294967295 m t)))))
    (λ t. let e : min m 4294967295 ≡ m = omega (arith, ltb-false 4294967295 m t) in rw (t, e))

sums-then : (m c : ℕ) → min (min m 4294967295 + c) 4294967295 ≡ min (m + c) 4294967295
sums-then m c = omega arith

-- marks and sums apart
regroup : (p q r s : Bool) (t u : Bool) → (r || t) ≡ u → ((((p || q) || r) || s) || t) ≡ (((p || q) || s) || u)
regroup true q r s t u e = refl
regroup false true r s t u e = refl
regroup false false true s t u e = sym (or_right s u (sym e))
regroup false false false s t u e = ap (λ x. s || x) e

-- ---- two edges, three edges

same-data : (a b : EdgeData) → a.support ≡ b.support → a.is_ref ≡ b.is_ref → a.capped ≡ b.capped → a ≡ b
same-data a b p q r = λ i. record { support = p i; is_ref = q i; capped = r i }

-- the order of two does not matter
pub joined-comm : (a b : EdgeData) → joined_data a b ≡ joined_data b a
unfolding joined_data saturating_add
joined-comm a b =
    let e : a.support + b.support ≡ b.support + a.support = omega arith in
    same-data _ _
    (omega arith)
    (or_comm a.is_ref b.is_ref)
    (λ i. or_comm a.capped b.capped i || over (e i))

-- three joined from the left
three : EdgeData → EdgeData → EdgeData → EdgeData
three a b c = record {
  support = min (a.support + b.support + c.support) 4294967295;
  is_ref = (a.is_ref || b.is_ref) || c.is_ref;
  capped = ((a.capped || b.capped) || c.capped) || over (a.support + b.support + c.support);
}

joined-three : (a b c : EdgeData) → joined_data (joined_data a b) c ≡ three a b c
unfolding joined_data saturating_add three
joined-three a b c = same-data _ _
    (sums-then (a.support + b.support) c.support)
    refl
    (regroup a.capped b.capped (over (a.support + b.support)) c.capped _ _ (over-then (a.support + b.support) c.support))

turned : (a b c : EdgeData) → three b c a ≡ three a b c
unfolding three
turned a b c =
    let e : b.support + c.support + a.support ≡ a.support + b.support + c.support = omega arith in
    same-data _ _
    (omega arith)
    (turn b.is_ref c.is_ref a.is_ref)
    (λ i. turn b.capped c.capped a.capped i || over (e i))
  where
    turn : (p q r : Bool) → ((p || q) || r) ≡ ((r || p) || q)
    turn p q r = or_comm (p || q) r ∙ sym (or_assoc r p q)

-- the grouping of three does not matter
pub joined-assoc : (a b c : EdgeData) → joined_data (joined_data a b) c ≡ joined_data a (joined_data b c)
joined-assoc a b c = joined-three a b c ∙ (sym (turned a b c) ∙ (sym (joined-three b c a) ∙ joined-comm (joined_data b c) a))

-- ---- any order: a list is joined as its members are, and none adds nothing

joined_if : Option EdgeData → Option EdgeData → Option EdgeData
joined_if none b = b
joined_if (some a) none = some a
joined_if (some a) (some b) = some (joined_data a b)

joined_all : List EdgeData → Option EdgeData
joined_all [] = none
joined_all (x ∷ xs) = joined_if (some x) (joined_all xs)

if-swap : (a b : EdgeData) (z : Option EdgeData) → joined_if (some a) (joined_if (some b) z) ≡ joined_if (some b) (joined_if (some a) z)
unfolding joined_if
if-swap a b none = ap some (joined-comm a b)
if-swap a b (some c) = ap some (sym (joined-assoc a b c) ∙ ap (λ x. joined_data x c) (joined-comm a b) ∙ joined-assoc b a c)

if-assoc : (a b : EdgeData) (z : Option EdgeData) → joined_if (some (joined_data a b)) z ≡ joined_if (some a) (joined_if (some b) z)
unfolding joined_if
if-assoc a b none = refl
if-assoc a b (some c) = ap some (joined-assoc a b c)

all-reordered : {xs ys : List EdgeData} → Reordered xs ys → joined_all xs ≡ joined_all ys
unfolding joined_all
all-reordered Reordered.none = refl
all-reordered (keep {x = x} r) = ap (joined_if (some x)) (all-reordered r)
all-reordered (swap {x = x} {y = y} {l = l}) = if-swap x y (joined_all l)
all-reordered (then r s) = all-reordered r ∙ all-reordered s

from_all : (a : EdgeData) (bs : List EdgeData) → some (joined_from a bs) ≡ joined_all (a ∷ bs)
unfolding joined_from joined_all joined_if
from_all a [] = refl
from_all a (b ∷ bs) = from_all (joined_data a b) bs ∙ if-assoc a b (joined_all bs)

-- THE ORDER DOES NOT MATTER
pub joined-any-order : (a b : EdgeData) (cs bs : List EdgeData) → Reordered (a ∷ cs) (b ∷ bs) → joined_from a cs ≡ joined_from b bs
joined-any-order a b cs bs r = some-injective _ _ (from_all a cs ∙ (all-reordered r ∙ sym (from_all b bs)))

-- ---- what a list of edges comes to

any_of-cons : {A : Type 0} (p : A → Bool) (x : A) (xs : List A) → any_of p (x ∷ xs) ≡ (p x || any_of p xs)
any_of-cons p x xs = by_test (p x) (λ t. any-yes p x xs t ∙ sym (or_left (p x) (any_of p xs) t)) (λ t. any-no p x xs t ∙ rw t)

true_sum-cons : (d : EdgeData) (ds : List EdgeData) → true_sum (d ∷ ds) ≡ d.support + true_sum ds
unfolding true_sum sum
true_sum-cons d ds = refl

true_sum-nil : true_sum [] ≡ 0
unfolding true_sum sum
true_sum-nil = refl

any-alone : (p : EdgeData → Bool) (a : EdgeData) → any_of p (a ∷ []) ≡ p a
unfolding any_of
any-alone p a = any_of-cons p a [] ∙ sym (or-none (p a))

-- an edge alone, where its support fits 32 bits
alone : (a : EdgeData) → a.support ≤ 4294967295 → IsJoinOf (a ∷ []) a
alone a h =
    let e : true_sum (a ∷ []) ≡ a.support = true_sum-cons a [] ∙ omega (arith, true_sum-nil) in
    record {
      support = rw e (omega arith);
      is_ref = sym (any-alone (λ x. x.is_ref) a);
      capped = rw (e, le-ltb 4294967295 a.support h) (or-none a.capped ∙ ap (λ z. z || false) (sym (any-alone (λ x. x.capped) a)));
    }

-- the first two of the list joined beforehand
joined-first : (a b : EdgeData) (cs : List EdgeData) (d : EdgeData) → IsJoinOf (joined_data a b ∷ cs) d → IsJoinOf (a ∷ b ∷ cs) d
unfolding joined_data saturating_add
joined-first a b cs d j = record {
  support = j.support ∙ ap (λ n. min n 4294967295) (true_sum-cons ab cs) ∙ sums-then (a.support + b.support) (true_sum cs) ∙ ap (λ n. min n 4294967295) whole;
  is_ref = j.is_ref ∙ any_of-cons ref ab cs ∙ or_assoc a.is_ref b.is_ref (any_of ref cs) ∙ sym (two ref);
  capped = j.capped ∙ (λ i. any_of-cons mark ab cs i || over (true_sum-cons ab cs i))
      ∙ regroup a.capped b.capped (over (a.support + b.support)) (any_of mark cs) _ _ (over-then (a.support + b.support) (true_sum cs))
      ∙ (λ i. (or_assoc a.capped b.capped (any_of mark cs) ∙ sym (two mark)) i || over (whole i));
}
  where
    ab : EdgeData
    ab = joined_data a b

    ref : EdgeData → Bool
    ref x = x.is_ref

    mark : EdgeData → Bool
    mark x = x.capped

    two : (p : EdgeData → Bool) → any_of p (a ∷ b ∷ cs) ≡ (p a || (p b || any_of p cs))
    two p = any_of-cons p a (b ∷ cs) ∙ ap (λ z. p a || z) (any_of-cons p b cs)

    whole : a.support + b.support + true_sum cs ≡ true_sum (a ∷ b ∷ cs)
    whole = omega (arith, true_sum-cons a (b ∷ cs), true_sum-cons b cs)

joined-fits : (a b : EdgeData) → (joined_data a b).support ≤ 4294967295
unfolding joined_data saturating_add
joined-fits a b = omega arith

-- WHAT JOINED EDGES CARRY
pub joined-figures : (a : EdgeData) (bs : List EdgeData) → a.support ≤ 4294967295 → IsJoinOf (a ∷ bs) (joined_from a bs)
unfolding joined_from
joined-figures a [] h = alone a h
joined-figures a (b ∷ bs) h = joined-first a b bs _ (joined-figures (joined_data a b) bs (joined-fits a b))

-- the mark in words: one of them had it, or the true sum passes 2^32 - 1
pub capped-means : (ds : List EdgeData) (d : EdgeData) → IsJoinOf ds d
    → (d.capped ≡ true) ↔ (((x : EdgeData) × Memᴰ x ds × (x.capped ≡ true)) ⊎ (4294967295 < true_sum ds))
capped-means ds d j = (
  λ t. ⊎_elim (λ a. inl (any_of-true mark ds a)) (λ o. inr (ltb-true _ _ o)) (or_cases (any_of mark ds) _ (sym j.capped ∙ t)),
  λ c. j.capped ∙ ⊎_elim
      (λ m. or_left (any_of mark ds) (over (true_sum ds)) (any_of-mem mark ds m.1 m.2))
      (λ o. or_right (any_of mark ds) (over (true_sum ds)) (lt-ltb _ _ o))
      c,
)
  where
    mark : EdgeData → Bool
    mark x = x.capped

-- ---- the signature

-- the graph with other marks: c says which edges are capped
abbrev marked : (Edge → Bool) → Edge → Edge
marked c e = record { from = e.from; to = e.to; support = e.support; is_ref = e.is_ref; capped = c e }

abbrev with_marks : (Edge → Bool) → Graph → Graph
with_marks c g = record { k = g.k; verts = g.verts; edges = map (marked c) g.edges }

-- the numbers of an edge in the signature
abbrev pub edge_numbers : Edge → List ℕ
edge_numbers e = e.from ∷ e.to ∷ e.support ∷ bit e.is_ref ∷ []

numbers-same : (c : Edge → Bool) (es : List Edge) → concat (map edge_numbers (map (marked c) es)) ≡ concat (map edge_numbers es)
unfolding concat
numbers-same c [] = refl
numbers-same c (e ∷ es) = ap (λ l. edge_numbers e ++ l) (numbers-same c es)

-- WHETHER A SUPPORT WAS CAPPED IS NOT COMPARED
pub signature-without-marks : (c : Edge → Bool) (g : Graph) → graph_topology_signature (with_marks c g) ≡ graph_topology_signature g
unfolding graph_topology_signature node_count
signature-without-marks c g =
    λ i. length g.verts ∷ length-map g.edges (marked c) i ∷ concat (map (λ v. length v ∷ v) g.verts) ++ numbers-same c g.edges i
