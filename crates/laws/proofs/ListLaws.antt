-- Laws of tests, and of the lists with tests.
-- Assumes nothing.
use Prim.Native.Nat.{ℕ, zero, suc, ◌+◌, ◌≤◌, ◌<◌}
use native.Mathlib.Nat.{le_of_suc-le-suc, not-suc-le-zero, zero-add, add-zero, suc-add, add-suc}
use native.Mathlib.Omega.{arith}
use mathlib.Core.Path.{◌≡◌, refl, sym, ap, ◌∙◌, subst}
use mathlib.Core.Logic.{◌⊎◌, inl, inr, ⊎_elim}
use mathlib.Core.Bool.{Bool, true, false, cond, not, ◌&&◌, ◌||◌, true≢false, false≢true}
use mathlib.Core.Option.{Option, none, some, some-injective}
use mathlib.Core.List.Memᴰ
use mathlib.Core.List.{List, [], ◌∷◌, ◌++◌, map, append_assoc, append-nil, Memᴰ}
use lib.Dec.{T, eqb, leb}
use lib.ListN.{length, get_or}
use borrow.Author.Tests.{leb-true, leb-false, eqb-true, eqb-false, eq-eqb, ne_eqb}
use Rattle.laws.proofs.Walks.{by_test}
use Rattle.defs.specs.Lists.{keep_if, any_of, all_of, keep_at, bit, given, rank, same_list}

pub clash : {X : Type 0} {b : Bool} → b ≡ true → b ≡ false → X
clash p q = absurd (true≢false (sym p ∙ q))

pub given-some : {A : Type 0} (b : Bool) (a x : A) → given b a ≡ some x → (b ≡ true) × (a ≡ x)
unfolding given
given-some true a x e = (refl, some-injective a x e)
given-some false a x e = absurd (omega (arith, bad))
  where
    bad : ◌≡◌ {A = ℕ} 0 1
    bad = cc

pub given_yes : {A : Type 0} (b : Bool) (a : A) → b ≡ true → given b a ≡ some a
unfolding given
given_yes b a t = rw t

pub given-no : {A : Type 0} (b : Bool) (a : A) → b ≡ false → given b a ≡ none
unfolding given
given-no b a t = rw t

pub and_split : (a b : Bool) → (a && b) ≡ true → (a ≡ true) × (b ≡ true)
and_split true b e = (refl, e)
and_split false b e = absurd (false≢true e)

pub and-true : (a b : Bool) → a ≡ true → b ≡ true → (a && b) ≡ true
and-true a b p q = rw (p, q)

pub or_left : (a b : Bool) → a ≡ true → (a || b) ≡ true
or_left a b t = rw t

pub or_right : (a b : Bool) → b ≡ true → (a || b) ≡ true
or_right true b t = refl
or_right false b t = t

pub or-none : (a : Bool) → a ≡ (a || false)
or-none true = refl
or-none false = refl

pub or_cases : (a b : Bool) → (a || b) ≡ true → (a ≡ true) ⊎ (b ≡ true)
or_cases true b e = inl refl
or_cases false b e = inr e

pub or-false : (a b : Bool) → (a || b) ≡ false → (a ≡ false) × (b ≡ false)
or-false true b h = clash refl h
or-false false b h = (refl, h)

pub not-not : (b : Bool) → b ≡ not (not b)
not-not true = refl
not-not false = refl

pub bit-small : (b : Bool) → bit b ≤ 1
unfolding bit
bit-small true = omega arith
bit-small false = omega arith

pub bit-yes : (b : Bool) → b ≡ true → bit b ≡ 1
unfolding bit
bit-yes b t = rw t

pub by_order : {X : Type 0} (m n : ℕ) → (m ≤ n → X) → (n < m → X) → X
by_order m n f g = by_test (leb m n) (λ t. f (leb-true m n t)) (λ t. g (leb-false m n t))

module _ {A : Type 0} (p : A → Bool) where
  pub keep_if-yes : (x : A) (xs : List A) → p x ≡ true → keep_if p (x ∷ xs) ≡ x ∷ keep_if p xs
  unfolding keep_if
  keep_if-yes x xs t = rw t

  pub keep_if-no : (x : A) (xs : List A) → p x ≡ false → keep_if p (x ∷ xs) ≡ keep_if p xs
  unfolding keep_if
  keep_if-no x xs t = rw t

  pub mem-keep_if : {x : A} {l : List A} → Memᴰ x l → p x ≡ true → Memᴰ x (keep_if p l)
  mem-keep_if (Memᴰ.head {x = y} {xs = ys} e) t = rw (keep_if-yes y ys (ap p (sym e) ∙ t)) (Memᴰ.head e)
  mem-keep_if (Memᴰ.tail {x = y} {xs = ys} m) t =
      by_test (p y) (λ py. rw (keep_if-yes y ys py) (Memᴰ.tail (mem-keep_if m t))) (λ py. rw (keep_if-no y ys py) (mem-keep_if m t))

  pub of-keep_if : (l : List A) {x : A} → Memᴰ x (keep_if p l) → Memᴰ x l × (p x ≡ true)
  unfolding keep_if
  of-keep_if [] m = absurd (Memᴰ.not-nil m)
  of-keep_if (y ∷ ys) {x} m =
      by_test (p y)
      (λ py. ⊎_elim (λ (e : x ≡ y). (Memᴰ.head e, ap p e ∙ py)) (λ m'. let r = of-keep_if ys m' in (Memᴰ.tail r.0, r.1))
      (Memᴰ.cases_cons (rw (keep_if-yes y ys py) at m)))
      (λ py. let r = of-keep_if ys (rw (keep_if-no y ys py) at m) in (Memᴰ.tail r.0, r.1))

  pub any-yes : (x : A) (xs : List A) → p x ≡ true → any_of p (x ∷ xs) ≡ true
  unfolding any_of
  any-yes x xs t = rw (t, any_of)

  pub any-no : (x : A) (xs : List A) → p x ≡ false → any_of p (x ∷ xs) ≡ any_of p xs
  unfolding any_of
  any-no x xs t = rw (t, any_of)

  pub all_yes : (x : A) (xs : List A) → p x ≡ true → all_of p (x ∷ xs) ≡ all_of p xs
  unfolding all_of
  all_yes x xs t = rw (t, all_of)

  pub all-no : (x : A) (xs : List A) → p x ≡ false → all_of p (x ∷ xs) ≡ false
  unfolding all_of
  all-no x xs t = rw (t, all_of)

pub any-map : {A B : Type 0} (p : B → Bool) (f : A → B) (xs : List A) → any_of p (map f xs) ≡ any_of (λ (x : A). p (f x)) xs
unfolding any_of
any-map p f [] = refl
any-map p f (x ∷ xs) = by_test (p (f x)) (λ t. rw (t, any_of)) (λ t. rw (t, any_of) (any-map p f xs))

-- two tests that agree on the members of a list
module _ {A : Type 0} (p q : A → Bool) where
  pub all_of-same : (l : List A) → ((x : A) → Memᴰ x l → p x ≡ q x) → all_of p l ≡ all_of q l
  unfolding all_of
  all_of-same [] h = refl
  all_of-same (x ∷ xs) h = by_test (q x)
      (λ t. all_yes p x xs (h x (Memᴰ.head refl) ∙ t) ∙ all_of-same xs (λ y m. h y (Memᴰ.tail m)) ∙ sym (all_yes q x xs t))
      (λ t. all-no p x xs (h x (Memᴰ.head refl) ∙ t) ∙ sym (all-no q x xs t))

  pub keep_if-same : (l : List A) → ((x : A) → Memᴰ x l → p x ≡ q x) → keep_if p l ≡ keep_if q l
  unfolding keep_if
  keep_if-same [] h = refl
  keep_if-same (x ∷ l) h = λ i. cond (h x (Memᴰ.head refl) i) (x ∷ keep_if-same l (λ y k. h y (Memᴰ.tail k)) i)
      (keep_if-same l (λ y k. h y (Memᴰ.tail k)) i)

-- members by index
pub mem-at : {A : Type 0} (d : A) {x : A} {l : List A} → Memᴰ x l → (i : ℕ) × (i < length l) × (get_or l i d ≡ x)
mem-at d (Memᴰ.head e) = (0, omega arith, sym e)
mem-at d (Memᴰ.tail m) = let r = mem-at d m in (suc r.0, omega (arith, r.1), r.2)

pub at_mem : {A : Type 0} (d : A) (l : List A) (i : ℕ) → i < length l → Memᴰ (get_or l i d) l
at_mem d [] i h = absurd (not-suc-le-zero h)
at_mem d (x ∷ l) zero h = Memᴰ.head refl
at_mem d (x ∷ l) (suc i) h = Memᴰ.tail (at_mem d l i (le_of_suc-le-suc h))

-- lists of numbers compared
pub same_list-eq : (a b : List ℕ) → same_list a b ≡ true → a ≡ b
unfolding same_list
same_list-eq [] [] t = refl
same_list-eq [] (y ∷ ys) t = clash t refl
same_list-eq (x ∷ xs) [] t = clash t refl
same_list-eq (x ∷ xs) (y ∷ ys) t =
    by_test (eqb x y)
    (λ e. let p = eqb-true x y e in let q = same_list-eq xs ys (rw (e, same_list) at t) in cc)
    (λ e. clash (rw (e, same_list) at t) refl)

pub same_list-refl : (l : List ℕ) → same_list l l ≡ true
unfolding same_list
same_list-refl [] = refl
same_list-refl (x ∷ xs) = rw (eq-eqb x x refl, same_list) (same_list-refl xs)

-- ranks
module _ (p : ℕ → Bool) where
  pub rank-yes : (n : ℕ) → p n ≡ true → rank p (suc n) ≡ suc (rank p n)
  unfolding rank bit
  rank-yes n t = rw t (omega arith)

  pub rank-no : (n : ℕ) → p n ≡ false → rank p (suc n) ≡ rank p n
  unfolding rank bit
  rank-no n t = rw t (omega arith)

  rank_step : (n : ℕ) → rank p n ≤ rank p (suc n)
  rank_step n = by_test (p n) (λ t. omega (arith, rank-yes n t)) (λ t. omega (arith, rank-no n t))

  -- ranks rise
  pub rank_mono : (m n : ℕ) → m ≤ n → rank p m ≤ rank p n
  rank_mono m zero h = let e : m ≡ 0 = omega arith in rw e (omega arith)
  rank_mono m (suc n) h = by_order m n (λ l. omega (arith, rank_mono m n l, rank_step n)) (λ l. let e : m ≡ suc n = omega arith in rw e (omega arith))

  pub rank_lt : (m n : ℕ) → m < n → p m ≡ true → rank p m < rank p n
  rank_lt m n h t = omega (arith, rank-yes m t, rank_mono (suc m) n h)

  pub rank-inj : (m n : ℕ) → p m ≡ true → p n ≡ true → rank p m ≡ rank p n → m ≡ n
  rank-inj m n tm tn e =
      by_order m n
      (λ l. by_order n m (λ l'. omega arith) (λ l'. absurd (omega (arith, rank_lt m n l' tm))))
      (λ l. absurd (omega (arith, rank_lt n m l tn)))

  -- the places of a list that are kept, under their ranks
  module _ {A : Type 0} where
    pub keep_at-yes : (i : ℕ) (x : A) (xs : List A) → p i ≡ true → keep_at p i (x ∷ xs) ≡ x ∷ keep_at p (suc i) xs
    unfolding keep_at
    keep_at-yes i x xs t = rw t

    pub keep_at-no : (i : ℕ) (x : A) (xs : List A) → p i ≡ false → keep_at p i (x ∷ xs) ≡ keep_at p (suc i) xs
    unfolding keep_at
    keep_at-no i x xs t = rw t

    -- the kept members from place i on are as many as the ranks say
    pub length-keep_at : (xs : List A) (i : ℕ) → rank p i + length (keep_at p i xs) ≡ rank p (i + length xs)
    unfolding keep_at
    length-keep_at [] i = simp add-zero
    length-keep_at (x ∷ xs) i =
        let ih = length-keep_at xs (suc i) in
        let e : i + suc (length xs) ≡ suc i + length xs = omega arith in
        rw e (by_test (p i)
        (λ t. rw (keep_at-yes i x xs t) (omega (arith, rank-yes i t, ih)))
        (λ t. rw (keep_at-no i x xs t) (omega (arith, rank-no i t, ih))))

    pub get_or-keep_at : (xs : List A) (i j n : ℕ) (d : A) → p (i + j) ≡ true → rank p (i + j) ≡ rank p i + n → j < length xs
        → get_or (keep_at p i xs) n d ≡ get_or xs j d
    get_or-keep_at [] i j n d t r h = absurd (not-suc-le-zero h)
    get_or-keep_at (x ∷ xs) i zero n d t r h =
        let z : n ≡ 0 = omega (arith, simp add-zero at r) in
        rw (z, keep_at-yes i x xs (simp add-zero at t))
    get_or-keep_at (x ∷ xs) i (suc j) n d t r h =
        let e : i + suc j ≡ suc i + j = omega arith in
        let t' : p (suc i + j) ≡ true = rw e at t in
        let r' : rank p (suc i + j) ≡ rank p i + n = rw e at r in
        by_test (p i)
        (λ u. rw (keep_at-yes i x xs u) (later u t' r' n refl (λ n' q. get_or-keep_at xs (suc i) j n' d t' q (le_of_suc-le-suc h))))
        (λ u. rw (keep_at-no i x xs u) (get_or-keep_at xs (suc i) j n d t' (omega (arith, r', rank-no i u)) (le_of_suc-le-suc h)))
      where
        later : p i ≡ true → p (suc i + j) ≡ true → rank p (suc i + j) ≡ rank p i + n → (m : ℕ) → n ≡ m
            → ((n' : ℕ) → rank p (suc i + j) ≡ rank p (suc i) + n' → get_or (keep_at p (suc i) xs) n' d ≡ get_or xs j d)
            → get_or (x ∷ keep_at p (suc i) xs) m d ≡ get_or xs j d
        later u t' r' zero f ih = absurd (omega (arith, rank-yes i u, rank_mono (suc i) (suc i + j) (omega arith)))
        later u t' r' (suc n') f ih = ih n' (omega (arith, rank-yes i u))

    -- each place of the kept members is the rank of a place
    pub place-keep_at : (xs : List A) (i n : ℕ) → n < length (keep_at p i xs) → (j : ℕ) × (j < length xs) × (p (i + j) ≡ true) × (rank p (i + j) ≡ rank p i + n)
    unfolding keep_at
    place-keep_at [] i n h = absurd (not-suc-le-zero h)
    place-keep_at (x ∷ xs) i n h =
        by_test (p i)
        (λ u. first u n (omega (arith, h, ap length (keep_at-yes i x xs u))) (λ n' q. place-keep_at xs (suc i) n' q))
        (λ u. let r = place-keep_at xs (suc i) n (omega (arith, h, ap length (keep_at-no i x xs u))) in
        (suc r.0, omega (arith, r.1), rw (next r.0) r.2, rw (next r.0) (omega (arith, r.3, rank-no i u))))
      where
        next : (j : ℕ) → i + suc j ≡ suc i + j
        next j = omega arith

        first : p i ≡ true → (m : ℕ) → m < suc (length (keep_at p (suc i) xs))
            → ((n' : ℕ) → n' < length (keep_at p (suc i) xs) → (j : ℕ) × (j < length xs) × (p (suc i + j) ≡ true)
            × (rank p (suc i + j) ≡ rank p (suc i) + n'))
            → (j : ℕ) × (j < suc (length xs)) × (p (i + j) ≡ true) × (rank p (i + j) ≡ rank p i + m)
        first u zero l ih = (0, omega arith, simp add-zero u, simp add-zero)
        first u (suc m) l ih =
            let r = ih m (le_of_suc-le-suc l) in
            (suc r.0, omega (arith, r.1), rw (next r.0) r.2, rw (next r.0) (omega (arith, r.3, rank-yes i u)))
