-- Laws of lists by index. Assumes nothing.
use mathlib.Core.Path.{◌≡◌, refl, sym, ap, ◌∙◌, subst}
use mathlib.Core.Bool.{Bool, true, false, cond, not, ◌&&◌}
use mathlib.Core.List.{List, [], ◌∷◌, ◌++◌, append_assoc, append-nil}
use Prim.Native.Nat.{ℕ, zero, suc, ◌+◌, ◌-◌, ◌≤◌, ◌<◌, suc-le-suc, zero-le}
use native.Mathlib.Nat.{le_of_suc-le-suc, not-suc-le-zero, suc-add, zero-add, add-suc, add-zero}
use native.Mathlib.Numerals.{add-one}
use native.Mathlib.Omega.{arith}
use native.Mathlib.Decide.{ℕ_discrete}
use lib.ListN.{length, get_or, set, length-set, take, drop}
use lib.Seq.{ext_get_or, get_or-set_same, get_or-set_other, take-suc, take-length}
use Rattle.defs.specs.Lists.{tab_from, tab}
use Rattle.tabs.specs.First.{first_ix}

module _ {A : Type 0} where
  -- ---- tab_from, tab

  pub length-tab-from : (s n : ℕ) (f : ℕ → A) → length (tab_from s n f) ≡ n
  unfolding tab_from
  length-tab-from s zero f = refl
  length-tab-from s (suc n) f = ap suc (length-tab-from (suc s) n f)

  pub length-tab : (n : ℕ) (f : ℕ → A) → length (tab n f) ≡ n
  length-tab n f = length-tab-from zero n f

  pub get_or-tab-from : (s n : ℕ) (f : ℕ → A) (i : ℕ) (d : A) → i < n → get_or (tab_from s n f) i d ≡ f (s + i)
  unfolding tab_from
  get_or-tab-from s zero f i d h = absurd (not-suc-le-zero h)
  get_or-tab-from s (suc n) f zero d h = ap f (sym (add-zero s))
  get_or-tab-from s (suc n) f (suc i) d h = get_or-tab-from (suc s) n f i d (le_of_suc-le-suc h) ∙ ap f (suc-add s i ∙ sym (add-suc s i))

  pub get_or-tab : (n : ℕ) (f : ℕ → A) (i : ℕ) (d : A) → i < n → get_or (tab n f) i d ≡ f i
  get_or-tab n f i d h = get_or-tab-from zero n f i d h ∙ ap f (zero-add i)

  pub tab-from-ext : (s n : ℕ) (f g : ℕ → A) → ((k : ℕ) → s ≤ k → k < s + n → f k ≡ g k) → tab_from s n f ≡ tab_from s n g
  unfolding tab_from
  tab-from-ext s zero f g h = refl
  tab-from-ext s (suc n) f g h =
      λ i. h s (omega arith) (omega (arith, add-suc s n)) i
      ∷ tab-from-ext (suc s) n f g (λ k a b. h k (omega arith) (omega (arith, suc-add s n, add-suc s n))) i

  -- two lists by index are equal where they agree at each index
  pub tab-ext : (n : ℕ) (f g : ℕ → A) → ((k : ℕ) → k < n → f k ≡ g k) → tab n f ≡ tab n g
  tab-ext n f g h = tab-from-ext zero n f g (λ k a b. h k (omega arith))

  tab-from-snoc : (s n : ℕ) (f : ℕ → A) → tab_from s (suc n) f ≡ tab_from s n f ++ (f (s + n) ∷ [])
  unfolding tab_from
  tab-from-snoc s zero f = ap (λ (k : ℕ). f k ∷ []) (sym (add-zero s))
  tab-from-snoc s (suc n) f = ap (λ (r : List A). f s ∷ r) (tab-from-snoc (suc s) n f
      ∙ ap (λ (k : ℕ). tab_from (suc s) n f ++ (f k ∷ [])) (suc-add s n ∙ sym (add-suc s n)))

  -- one more at the end: a turn of a loop that goes up
  pub tab-snoc : (n : ℕ) (f : ℕ → A) → tab (n + 1) f ≡ tab n f ++ (f n ∷ [])
  tab-snoc n f = ap (λ (k : ℕ). tab k f) (add-one n) ∙ tab-from-snoc zero n f ∙ ap (λ (k : ℕ). tab n f ++ (f k ∷ [])) (zero-add n)

  -- the first n of a list are those at the indices below n
  pub take-tab : (l : List A) (d : A) (n : ℕ) → n ≤ length l → take n l ≡ tab n (λ (i : ℕ). get_or l i d)
  unfolding tab_from
  take-tab l d zero h = refl
  take-tab l d (suc n) h =
      take-suc l n d (omega arith)
      ∙ ap (λ (r : List A). r ++ (get_or l n d ∷ [])) (take-tab l d n (omega arith))
      ∙ sym (ap (λ (k : ℕ). tab k (λ (i : ℕ). get_or l i d)) (sym (add-one n)) ∙ tab-snoc n (λ (i : ℕ). get_or l i d))

  -- a list is the list of its members by index
  pub tab-get_or : (l : List A) (d : A) → tab (length l) (λ (i : ℕ). get_or l i d) ≡ l
  tab-get_or l d = sym (take-tab l d (length l) (omega arith)) ∙ take-length l

  pub tab-zero : (f : ℕ → A) → tab 0 f ≡ []
  unfolding tab_from
  tab-zero f = refl

  -- a store at index i of a list by index
  pub tab-set : (n : ℕ) (f g : ℕ → A) (i : ℕ) (d : A) → i < n → ((k : ℕ) → k < n → (k ≡ i → ⊥) → g k ≡ f k) → tab n g ≡ set (tab n f) i (g i)
  tab-set n f g i d h o = ext_get_or d _ _ (length-tab n g ∙ sym (length-set (tab n f) i (g i) ∙ length-tab n f)) at
    where
      at : (k : ℕ) → k < length (tab n g) → get_or (tab n g) k d ≡ get_or (set (tab n f) i (g i)) k d
      at k b =
          let b' : k < n = omega (arith, length-tab n g) in
          elim (ℕ_discrete k i) [
            | yes e ↦ rw (get_or-tab n g k d b', e, get_or-set_same (tab n f) i (g i) d (omega (arith, length-tab n f))) refl
            | no ne ↦ rw (get_or-tab n g k d b', get_or-set_other (tab n f) i k (g i) d ne, get_or-tab n f k d b') (o k b' ne)
          ]

  -- ---- first_ix

  pub first_ix-yes : (p : A → Bool) (x : A) (xs : List A) → p x ≡ true → first_ix p (x ∷ xs) ≡ 0
  unfolding first_ix
  first_ix-yes p x xs t = rw t

  pub first_ix-no : (p : A → Bool) (x : A) (xs : List A) → p x ≡ false → first_ix p (x ∷ xs) ≡ suc (first_ix p xs)
  unfolding first_ix
  first_ix-no p x xs t = rw t

  pub first-skip : (p : A → Bool) (xs ys : List A) → ((k : ℕ) (d : A) → k < length xs → p (get_or xs k d) ≡ false) → first_ix p (xs ++ ys)
      ≡ length xs + first_ix p ys
  unfolding first_ix
  first-skip p [] ys h = sym (zero-add (first_ix p ys))
  first-skip p (x ∷ xs) ys h =
      rw (h zero x (omega arith)) (ap suc (first-skip p xs ys (λ k d b. h (suc k) d (omega arith))) ∙ sym (suc-add (length xs) (first_ix p ys)))

  first-from : (p : A → Bool) (s n : ℕ) (f : ℕ → A) (i : ℕ) → i < n → ((k : ℕ) → k < i → p (f (s + k)) ≡ false) → p (f (s + i)) ≡ true
      → first_ix p (tab_from s n f) ≡ i
  unfolding first_ix tab_from
  first-from p s zero f i h o t = absurd (not-suc-le-zero h)
  first-from p s (suc n) f zero h o t = let t' : p (f s) ≡ true = rw add-zero at t in rw t'
  first-from p s (suc n) f (suc i) h o t =
      let o' : p (f s) ≡ false = rw add-zero at (o zero (omega arith)) in
      rw o' (ap suc (first-from p (suc s) n f i (omega arith) (λ k b. rw (suc-add, ← add-suc) (o (suc k) (omega arith))) (rw (suc-add, ← add-suc) t)))

  -- a search that stopped at i
  pub first-at : (p : A → Bool) (n : ℕ) (f : ℕ → A) (i : ℕ) → i < n → ((k : ℕ) → k < i → p (f k) ≡ false) → p (f i) ≡ true → first_ix p (tab n f) ≡ i
  first-at p n f i h o t = first-from p zero n f i h (λ k b. rw zero-add (o k b)) (rw zero-add t)

  first-none-from : (p : A → Bool) (s n : ℕ) (f : ℕ → A) → ((k : ℕ) → k < n → p (f (s + k)) ≡ false) → first_ix p (tab_from s n f) ≡ n
  unfolding first_ix tab_from
  first-none-from p s zero f o = refl
  first-none-from p s (suc n) f o =
      let o' : p (f s) ≡ false = rw add-zero at (o zero (omega arith)) in
      rw o' (ap suc (first-none-from p (suc s) n f (λ k b. rw (suc-add, ← add-suc) (o (suc k) (omega arith)))))

-- ---- tests

pub and-no-left : {p : Bool} (q : Bool) → p ≡ false → p && q ≡ false
and-no-left q h = rw h

pub and-no-right : (p : Bool) {q : Bool} → q ≡ false → p && q ≡ false
and-no-right true h = h
and-no-right false h = refl

-- ---- a loop that stores at index i what is to stand there

pub set_more : (P : ℕ → ℕ → Type 0) (to : List ℕ) (i x : ℕ) → i < length to → ((k : ℕ) → k < i → P k (get_or to k 0)) → P i x
    → (k : ℕ) → k < i + 1 → P k (get_or (set to i x) k 0)
set_more P to i x h o p k b = elim (ℕ_discrete k i) [
  | yes e ↦ rw (e, get_or-set_same to i x 0 h) p
  | no ne ↦ rw (get_or-set_other to i k x 0 ne) (o k (omega arith))
]

-- the turns that are left at turn i of n: this one, and those that are left at the next
pub one_less : (n i : ℕ) → i < n → n - i ≡ suc (n - (i + 1))
one_less n i h = omega arith

-- ---- `if t { x } else { y }`

pub then_is : {A : Type 0} {t : Bool} (x y : A) → t ≡ true → x ≡ cond t x y
then_is x y h = rw h

pub else_is : {A : Type 0} {t : Bool} (x y : A) → t ≡ false → y ≡ cond t x y
else_is x y h = rw h

-- ---- `if p { q } else { false }` is `p && q`

pub and_then : {p : Bool} (q : Bool) → p ≡ true → q ≡ p && q
and_then q h = rw h

pub and-else : {p : Bool} (q : Bool) → p ≡ false → false ≡ p && q
and-else q h = rw h
