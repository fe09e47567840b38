-- Sums over lists, what a restriction leaves of them, and edges that are not doubled.
-- Assumes nothing.
use Prim.Native.Nat.{ℕ, zero, suc, ◌+◌, ◌*◌, ◌≤◌, ◌<◌}
use native.Mathlib.Omega.{arith}
use native.Mathlib.Nat.{not-suc-le-zero, le_of_suc-le-suc, zero-add, add-zero}
use mathlib.Core.Path.{◌≡◌, refl, sym, ap, ◌∙◌}
use mathlib.Core.Logic.{⊎_elim}
use mathlib.Core.Bool.{Bool, true, false, ◌&&◌, not}
use mathlib.Core.List.Memᴰ
use mathlib.Core.List.{List, [], ◌∷◌, ◌++◌, map, Memᴰ}
use lib.Dec.{eqb}
use lib.ListN.{length, get_or, length-append}
use borrow.Author.Tests.{eqb-true, eq-eqb, ne_eqb}
use Rattle.defs.specs.Lists.{keep_if, keep_at, bit, concat, rank}
use Rattle.defs.specs.SeqGraph.{Edge, EdgeData, edge_data, new_edge, has_ends, add_or_update_edge, add_or_update_edges, keeps, remap_edge}
use Rattle.defs.specs.Rewrites.{non_empty}
use Rattle.laws.proofs.Walks.{by_test}
use Rattle.laws.proofs.ListLaws.{clash, and_split, and-true, keep_if-yes, keep_if-no, of-keep_if, keep_at-yes, keep_at-no, rank-inj}
use Rattle.laws.proofs.Edges.{Linked, raise-yes, raise-no, of-raise, keeps-not, not-keeps, keeps-other, keeps-gone}

pub bit_le : (b : Bool) → bit b ≤ 1
unfolding bit
bit_le true = omega arith
bit_le false = omega arith

module _ {A : Type 0} where
  unfoldable pub total : (A → ℕ) → List A → ℕ
  total f [] = 0
  total f (x ∷ xs) = f x + total f xs

  pub total-le : (f g : A → ℕ) (l : List A) → ((x : A) → Memᴰ x l → f x ≤ g x) → total f l ≤ total g l
  unfolding total
  total-le f g [] h = omega arith
  total-le f g (x ∷ xs) h = omega (arith, h x (Memᴰ.head refl), total-le f g xs (λ y m. h y (Memᴰ.tail m)))

  pub total-same : (f g : A → ℕ) (l : List A) → ((x : A) → Memᴰ x l → f x ≡ g x) → total f l ≡ total g l
  unfolding total
  total-same f g [] h = refl
  total-same f g (x ∷ xs) h = omega (arith, h x (Memᴰ.head refl), total-same f g xs (λ y m. h y (Memᴰ.tail m)))

  pub total-add : (f g : A → ℕ) (l : List A) → total (λ x. f x + g x) l ≡ total f l + total g l
  unfolding total
  total-add f g [] = refl
  total-add f g (x ∷ xs) = omega (arith, total-add f g xs)

  pub total-append : (f : A → ℕ) (l m : List A) → total f (l ++ m) ≡ total f l + total f m
  unfolding total
  total-append f [] m = omega arith
  total-append f (x ∷ xs) m = omega (arith, total-append f xs m)

  pub total-one : (l : List A) → total (λ _. 1) l ≡ length l
  unfolding total
  total-one [] = refl
  total-one (x ∷ xs) = omega (arith, total-one xs)

  pub total-zero : (l : List A) → total (λ _. 0) l ≡ 0
  unfolding total
  total-zero [] = refl
  total-zero (x ∷ xs) = omega (arith, total-zero xs)

  pub length-keep_if : (p : A → Bool) (l : List A) → length (keep_if p l) ≡ total (λ x. bit (p x)) l
  unfolding total keep_if bit
  length-keep_if p [] = refl
  length-keep_if p (x ∷ xs) =
      by_test (p x)
      (λ t. rw (keep_if-yes p x xs t, t) (omega (arith, length-keep_if p xs)))
      (λ t. rw (keep_if-no p x xs t, t) (omega (arith, length-keep_if p xs)))

  -- the members kept and the one more that is at place i + j
  keep_at-same : (p q : ℕ → Bool) (xs : List A) (i : ℕ) → ((v : ℕ) → i ≤ v → q v ≡ p v) → keep_at q i xs ≡ keep_at p i xs
  unfolding keep_at
  keep_at-same p q [] i h = refl
  keep_at-same p q (x ∷ xs) i h =
      let ih = keep_at-same p q xs (suc i) (λ v l. h v (omega arith)) in
      by_test (p i)
      (λ t. rw (keep_at-yes p i x xs t, keep_at-yes q i x xs (h i (omega arith) ∙ t), ih))
      (λ t. rw (keep_at-no p i x xs t, keep_at-no q i x xs (h i (omega arith) ∙ t), ih))

  keep_at-point : (f : A → ℕ) (p q : ℕ → Bool) (d : A) (xs : List A) (i j : ℕ) → j < length xs → ((v : ℕ) → (v ≡ i + j → ⊥) → q v ≡ p v)
      → p (i + j) ≡ true → q (i + j) ≡ false
      → total f (keep_at p i xs) ≡ f (get_or xs j d) + total f (keep_at q i xs)
  unfolding total
  keep_at-point f p q d [] i j h same t u = absurd (not-suc-le-zero h)
  keep_at-point f p q d (x ∷ xs) i zero h same t u =
      rw (keep_at-yes p i x xs (rw add-zero at t), keep_at-no q i x xs (rw add-zero at u), keep_at-same p q xs (suc i) (λ v l. same v (λ e. omega arith)))
  keep_at-point f p q d (x ∷ xs) i (suc j) h same t u =
      let e : i + suc j ≡ suc i + j = omega arith in
      let ih = keep_at-point f p q d xs (suc i) j (le_of_suc-le-suc h) (λ v n. same v (λ k. n (k ∙ e))) (rw e at t) (rw e at u) in
      let s = same i (λ k. omega arith) in
      by_test (p i)
      (λ t. rw (keep_at-yes p i x xs t, keep_at-yes q i x xs (s ∙ t)) (omega (arith, ih)))
      (λ t. rw (keep_at-no p i x xs t, keep_at-no q i x xs (s ∙ t)) (omega (arith, ih)))

-- no member twice
abbrev pub Distinct : List ℕ → Type 0
Distinct [] = Unit {0}
Distinct (x ∷ xs) = (Memᴰ x xs → ⊥) × Distinct xs

pub keep_at-all : {A : Type 0} (p : ℕ → Bool) (xs : List A) (i : ℕ) → ((v : ℕ) → p v ≡ true) → keep_at p i xs ≡ xs
unfolding keep_at
keep_at-all p [] i h = refl
keep_at-all p (x ∷ xs) i h = rw (keep_at-yes p i x xs (h i), keep_at-all p xs (suc i) h)

-- what is kept and what goes, together
pub total_kept : {A : Type 0} (f : A → ℕ) (d : A) (xs : List A) (gone : List ℕ) → Distinct gone → ((v : ℕ) → Memᴰ v gone → v < length xs)
    → total f (keep_at (keeps gone) 0 xs) + total (λ v. f (get_or xs v d)) gone ≡ total f xs
unfolding total
total_kept f d xs [] h b = rw (keep_at-all (keeps []) xs 0 (λ v. keeps-other [] v Memᴰ.not-nil)) (omega arith)
total_kept f d xs (x ∷ gone) h b =
    let ih = total_kept f d xs gone h.1 (λ v m. b v (Memᴰ.tail m)) in
    let k = keep_at-point f (keeps gone) (keeps (x ∷ gone)) d xs 0 x (b x (Memᴰ.head refl))
    (λ v n. by_test (keeps gone v)
    (λ t. keeps-other (x ∷ gone) v (λ m. ⊎_elim (λ (e : v ≡ x). n (rw zero-add e)) (keeps-not gone v t) (Memᴰ.cases_cons m)) ∙ sym t)
    (λ t. keeps-gone (x ∷ gone) v (Memᴰ.tail (not-keeps gone v t)) ∙ sym t))
    (rw zero-add (keeps-other gone x h.0))
    (rw zero-add (keeps-gone (x ∷ gone) x (Memᴰ.head refl))) in
    omega (arith, ih, k)

-- edges that are not doubled
abbrev pub Single : List Edge → Type 0
Single [] = Unit {0}
Single (e ∷ es) = (Linked es e.from e.to → ⊥) × Single es

pub ends_join : (u v : ℕ) (e : Edge) → u ≡ e.from → v ≡ e.to → has_ends u v e ≡ true
unfolding has_ends
ends_join u v e p q = and-true _ _ (eq-eqb _ _ (sym p)) (eq-eqb _ _ (sym q))

pub single-raise : (u v : ℕ) (d : EdgeData) (es : List Edge) → Single es → Single (add_or_update_edge u v d es)
unfolding add_or_update_edge new_edge
single-raise u v d [] h = (λ l. Memᴰ.not-nil l.1, tt)
single-raise u v d (e ∷ es) h =
    by_test (has_ends u v e)
    (λ t. rw (raise-yes u v d e es t) h)
    (λ t. rw (raise-no u v d e es t)
    (λ l. of-raise u v d es e.from e.to l h.0 (λ p q. clash (ends_join u v e p q) t), single-raise u v d es h.1))

pub single-raise_all : (ns es : List Edge) → Single es → Single (add_or_update_edges ns es)
unfolding add_or_update_edges
single-raise_all [] es h = h
single-raise_all (n ∷ ns) es h = single-raise_all ns _ (single-raise n.from n.to (edge_data n) es h)

-- those of a restriction
module _ (p : ℕ → Bool) where
  abbrev both : Edge → Bool
  both e = p e.from && p e.to

  apart : (es : List Edge) (e : Edge) → both e ≡ true → Linked (map (remap_edge p) (keep_if both es)) (rank p e.from) (rank p e.to)
      → Linked es e.from e.to
  unfolding remap_edge
  apart es e t (f, m, a, b) =
      let k = Memᴰ.of_map (remap_edge p) _ m in
      let j = of-keep_if both es k.1 in
      let x = and_split _ _ t in
      let y = and_split _ _ j.1 in
      (k.0, j.0, rank-inj p _ _ y.0 x.0 (ap (λ (e : Edge). e.from) k.2 ∙ a), rank-inj p _ _ y.1 x.1 (ap (λ (e : Edge). e.to) k.2 ∙ b))

  pub single-renumber : (es : List Edge) → Single es → Single (map (remap_edge p) (keep_if both es))
  unfolding keep_if remap_edge
  single-renumber [] h = tt
  single-renumber (e ∷ es) h =
      by_test (both e)
      (λ t. rw (keep_if-yes both e es t) (λ l. h.0 (apart es e t l), single-renumber es h.1))
      (λ t. rw (keep_if-no both e es t) (single-renumber es h.1))

  -- each new edge adds at most one
  sum-raise : (u v : ℕ) (d : EdgeData) (es : List Edge) → total (λ e. bit (both e)) (add_or_update_edge u v d es) ≤ suc (total (λ e. bit (both e)) es)
  unfolding add_or_update_edge new_edge total
  sum-raise u v d [] = omega (arith, bit_le (p u && p v))
  sum-raise u v d (e ∷ es) =
      by_test (has_ends u v e)
      (λ t. rw (raise-yes u v d e es t) (omega arith))
      (λ t. rw (raise-no u v d e es t) (omega (arith, sum-raise u v d es)))

  count-raise : (u v : ℕ) (d : EdgeData) (es : List Edge) → length (keep_if both (add_or_update_edge u v d es)) ≤ suc (length (keep_if both es))
  count-raise u v d es = rw (length-keep_if both (add_or_update_edge u v d es), length-keep_if both es) (sum-raise u v d es)

  pub count-raise_all : (ns es : List Edge) → length (keep_if both (add_or_update_edges ns es)) ≤ length ns + length (keep_if both es)
  unfolding add_or_update_edges
  count-raise_all [] es = omega arith
  count-raise_all (n ∷ ns) es = omega (
    arith,
    count-raise_all ns (add_or_update_edge n.from n.to (edge_data n) es),
    count-raise n.from n.to (edge_data n) es,
  )

-- the members that pass one of several tests
pub length-flat : {A B : Type 0} (q : B → A → Bool) (es : List A) (vs : List B) → length (concat (map (λ v. keep_if (q v) es) vs))
    ≡ total (λ e. total (λ v. bit (q v e)) vs) es
unfolding concat total
length-flat q es [] = sym (total-zero es)
length-flat q es (v ∷ vs) =
    length-append (keep_if (q v) es) (concat (map (λ v. keep_if (q v) es) vs))
    ∙ omega (arith, length-keep_if (q v) es, length-flat q es vs, total-add (λ e. bit (q v e)) (λ e. total (λ v. bit (q v e)) vs) es)

-- how often a number stands in a list
pub times_none : (d : ℕ) (vs : List ℕ) → (Memᴰ d vs → ⊥) → total (λ v. bit (eqb d v)) vs ≡ 0
unfolding total bit
times_none d [] h = refl
times_none d (v ∷ vs) h = rw (ne_eqb d v (λ e. h (Memᴰ.head e))) (omega (arith, times_none d vs (λ m. h (Memᴰ.tail m))))

pub times-le : (d : ℕ) (vs : List ℕ) → Distinct vs → total (λ v. bit (eqb d v)) vs ≤ 1
unfolding total bit
times-le d [] h = omega arith
times-le d (v ∷ vs) h =
    by_test (eqb d v)
    (λ t. rw t (omega (arith, times_none d vs (λ m. h.0 (rw (eqb-true d v t) at m)))))
    (λ t. rw t (omega (arith, times-le d vs h.1)))

-- what a vertex weighs: its bytes, or 1 if it has none
unfoldable pub heft : List ℕ → ℕ
heft [] = 1
heft (x ∷ xs) = suc (length xs)

pub length-heft : (l : List ℕ) → length l ≤ heft l
unfolding heft
length-heft [] = omega arith
length-heft (x ∷ l) = omega arith

pub heft-full : (l : List ℕ) → non_empty l ≡ true → heft l ≡ length l
unfolding non_empty heft
heft-full [] e = clash e refl
heft-full (x ∷ l) e = refl

pub heft-append : (a b : List ℕ) → heft (a ++ b) ≤ heft a + heft b
unfolding heft
heft-append [] b = omega arith
heft-append (x ∷ a) b = omega (arith, length-append a b, length-heft b)

pub total-times : {A : Type 0} (c : ℕ) (l : List A) → total (λ _. c) l ≡ c * length l
unfolding total
total-times c [] = omega arith
total-times c (x ∷ l) = omega (arith, total-times c l)

-- those that pass and those that do not
pub length_both : {A : Type 0} (p : A → Bool) (l : List A) → length (keep_if p l) + length (keep_if (λ x. not (p x)) l) ≡ length l
unfolding keep_if
length_both p [] = refl
length_both p (x ∷ l) = by_test (p x) (λ t. rw t (omega (arith, length_both p l))) (λ t. rw t (omega (arith, length_both p l)))

-- adding edges between kept vertices leaves those that go
module _ (p : ℕ → Bool) where
  abbrev goes : Edge → Bool
  goes e = not (p e.from && p e.to)

  gone_cons : (e : Edge) (es : List Edge) → length (keep_if goes (e ∷ es)) ≡ bit (goes e) + length (keep_if goes es)
  unfolding bit
  gone_cons e es = by_test (goes e) (λ t. rw (keep_if-yes goes e es t, t) (omega arith)) (λ t. rw (keep_if-no goes e es t, t) (omega arith))

  gone-raise : (u v : ℕ) (d : EdgeData) (es : List Edge) → p u ≡ true → p v ≡ true → length (keep_if goes (add_or_update_edge u v d es)) ≡ length (keep_if goes es)
  unfolding add_or_update_edge new_edge keep_if
  gone-raise u v d [] a b = rw (a, b)
  gone-raise u v d (e ∷ es) a b = by_test (has_ends u v e)
      (λ t. rw (raise-yes u v d e es t) (gone_cons _ es ∙ sym (gone_cons e es)))
      (λ t. rw (raise-no u v d e es t) (gone_cons e (add_or_update_edge u v d es)
      ∙ (ap (λ z. bit (goes e) + z) (gone-raise u v d es a b) ∙ sym (gone_cons e es))))

  pub gone-raise_all : (ns es : List Edge) → ((n : Edge) → Memᴰ n ns → (p n.from ≡ true) × (p n.to ≡ true))
      → length (keep_if goes (add_or_update_edges ns es)) ≡ length (keep_if goes es)
  unfolding add_or_update_edges
  gone-raise_all [] es k = refl
  gone-raise_all (n ∷ ns) es k =
      let a = k n (Memᴰ.head refl) in
      gone-raise_all ns (add_or_update_edge n.from n.to (edge_data n) es) (λ x m. k x (Memᴰ.tail m))
      ∙ gone-raise n.from n.to (edge_data n) es a.0 a.1
