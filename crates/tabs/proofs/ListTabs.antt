-- The model's list functions along lists by index: one more at the end. Assumes nothing.
use mathlib.Core.Path.{◌≡◌, refl, sym, ap, ◌∙◌}
use mathlib.Core.Bool.{Bool, true, false, ◌||◌}
use mathlib.Core.List.Memᴰ
use mathlib.Core.List.{List, [], ◌∷◌, ◌++◌, append_assoc, append-nil, Memᴰ}
use mathlib.Core.Logic.{⊎_elim}
use Prim.Native.Nat.{ℕ, zero, suc, ◌+◌, ◌<◌}
use native.Mathlib.Nat.{add-zero, zero-add}
use native.Mathlib.Omega.{arith}
use lib.ListN.{length}
use lib.Dec.{eqb}
use Rattle.defs.specs.Lists.{tab, tab_from}
use Rattle.tabs.proofs.Tabs.{tab-snoc, tab-zero, length-tab}
use Rattle.defs.specs.Lists.{keep_if, any_of, keep_at, head_or, elem_of, up_from}
use Rattle.defs.specs.SeqGraph.{Edge, add_or_update_edges}
use Rattle.laws.proofs.Walks.{by_test}

module _ {A : Type 0} where
  pub tab-append : (n c : ℕ) (f : ℕ → A) → tab (n + c) f ≡ tab n f ++ tab c (λ (i : ℕ). f (n + i))
  tab-append n zero f = ap (λ (x : ℕ). tab x f) (add-zero n) ∙ sym (ap (λ (l : List A). tab n f ++ l) (tab-zero _) ∙ append-nil _)
  tab-append n (suc c) f =
      let e : n + suc c ≡ (n + c) + 1 = omega arith in
      let d : suc c ≡ c + 1 = omega arith in
      ap (λ (x : ℕ). tab x f) e ∙ tab-snoc (n + c) f ∙ ap (λ (l : List A). l ++ (f (n + c) ∷ [])) (tab-append n c f)
      ∙ append_assoc (tab n f) _ _ ∙ ap (λ (l : List A). tab n f
      ++ l) (sym (ap (λ (x : ℕ). tab x (λ (i : ℕ). f (n + i))) d ∙ tab-snoc c (λ (i : ℕ). f (n + i))))

  module _ (p : A → Bool) where
    pub keep_if-append : (xs ys : List A) → keep_if p (xs ++ ys) ≡ keep_if p xs ++ keep_if p ys
    unfolding keep_if
    keep_if-append [] ys = refl
    keep_if-append (x ∷ xs) ys = by_test (p x)
        (λ t. rw (t) (ap (λ (l : List A). x ∷ l) (keep_if-append xs ys)))
        (λ t. rw (t) (keep_if-append xs ys))

    pub keep_if-tab-yes : (n : ℕ) (f : ℕ → A) → p (f n) ≡ true → keep_if p (tab (n + 1) f) ≡ keep_if p (tab n f) ++ (f n ∷ [])
    unfolding keep_if
    keep_if-tab-yes n f t = ap (keep_if p) (tab-snoc n f) ∙ keep_if-append (tab n f) (f n ∷ []) ∙ rw t

    pub keep_if-tab-no : (n : ℕ) (f : ℕ → A) → p (f n) ≡ false → keep_if p (tab (n + 1) f) ≡ keep_if p (tab n f)
    unfolding keep_if
    keep_if-tab-no n f t = ap (keep_if p) (tab-snoc n f) ∙ keep_if-append (tab n f) (f n ∷ []) ∙ rw (t, append-nil)

  module _ (p : ℕ → Bool) where
    keep_at-append : (i : ℕ) (xs ys : List A) → keep_at p i (xs ++ ys) ≡ keep_at p i xs ++ keep_at p (i + length xs) ys
    unfolding keep_at
    keep_at-append i [] ys = rw add-zero
    keep_at-append i (x ∷ xs) ys =
        let ih : keep_at p (suc i) (xs ++ ys) ≡ keep_at p (suc i) xs ++ keep_at p (i + suc (length xs)) ys
        = keep_at-append (suc i) xs ys ∙ ap (λ (k : ℕ). keep_at p (suc i) xs ++ keep_at p k ys) (omega arith) in
        by_test (p i) (λ t. rw t (ap (λ (l : List A). x ∷ l) ih)) (λ t. rw t ih)

    at_length : (n : ℕ) (f : ℕ → A) → 0 + length (tab n f) ≡ n
    at_length n f = zero-add _ ∙ length-tab n f

    pub keep_at-tab-yes : (n : ℕ) (f : ℕ → A) → p n ≡ true → keep_at p 0 (tab (n + 1) f) ≡ keep_at p 0 (tab n f) ++ (f n ∷ [])
    unfolding keep_at
    keep_at-tab-yes n f t = ap (keep_at p 0) (tab-snoc n f) ∙ keep_at-append 0 (tab n f) (f n ∷ []) ∙ rw (at_length n f, t)

    pub keep_at-tab-no : (n : ℕ) (f : ℕ → A) → p n ≡ false → keep_at p 0 (tab (n + 1) f) ≡ keep_at p 0 (tab n f)
    unfolding keep_at
    keep_at-tab-no n f t = ap (keep_at p 0) (tab-snoc n f) ∙ keep_at-append 0 (tab n f) (f n ∷ []) ∙ rw (at_length n f, t, append-nil)

  any-tab-from : (p : A → Bool) (s n : ℕ) (f : ℕ → A) → any_of p (tab_from s n f) ≡ any_of (λ (i : ℕ). p (f i)) (up_from s n)
  unfolding any_of tab_from up_from
  any-tab-from p s zero f = refl
  any-tab-from p s (suc n) f = by_test (p (f s)) (λ t. rw (t, any_of)) (λ t. rw (t, any_of) (any-tab-from p (suc s) n f))

  -- a test of some member, by index
  pub any-tab : (p : A → Bool) (n : ℕ) (f : ℕ → A) → any_of p (tab n f) ≡ any_of (λ (i : ℕ). p (f i)) (up_from 0 n)
  any-tab p n f = any-tab-from p 0 n f

  mem-tab-from : (s n : ℕ) (f : ℕ → A) (k : ℕ) → k < n → Memᴰ (f (s + k)) (tab_from s n f)
  unfolding tab_from
  mem-tab-from s zero f k h = absurd (omega arith)
  mem-tab-from s (suc n) f zero h = Memᴰ.head (ap f (add-zero s))
  mem-tab-from s (suc n) f (suc k) h = let e : s + suc k ≡ suc s + k = omega arith in rw e (Memᴰ.tail (mem-tab-from (suc s) n f k (omega arith)))

  pub mem-tab : (n : ℕ) (f : ℕ → A) (k : ℕ) → k < n → Memᴰ (f k) (tab n f)
  mem-tab n f k h = rw zero-add at (mem-tab-from 0 n f k h)

  pub of-mem-tab-from : (s n : ℕ) (f : ℕ → A) {x : A} → Memᴰ x (tab_from s n f) → (k : ℕ) × (k < n) × (x ≡ f (s + k))
  unfolding tab_from
  of-mem-tab-from s zero f m = absurd (Memᴰ.not-nil m)
  of-mem-tab-from s (suc n) f {x} m = ⊎_elim
      (λ (e : x ≡ f s). (0, omega arith, e ∙ ap f (sym (add-zero s))))
      (λ m'. let r = of-mem-tab-from (suc s) n f m' in (suc r.0, omega (arith, r.1), r.2 ∙ ap f (omega arith)))
      (Memᴰ.cases_cons m)

  pub of-mem-tab : (n : ℕ) (f : ℕ → A) {x : A} → Memᴰ x (tab n f) → (k : ℕ) × (k < n) × (x ≡ f k)
  of-mem-tab n f m = let r = of-mem-tab-from 0 n f m in (r.0, r.1, r.2 ∙ ap f (zero-add _))

pub raise_all-none : (es : List Edge) → add_or_update_edges [] es ≡ es
unfolding add_or_update_edges
raise_all-none es = refl

pub elem_of-snoc : (v : ℕ) (xs : List ℕ) (y : ℕ) → elem_of v (xs ++ (y ∷ [])) ≡ elem_of v xs || eqb v y
unfolding elem_of
elem_of-snoc v [] y = by_test (eqb v y) (λ t. rw (t, elem_of)) (λ t. rw (t, elem_of))
elem_of-snoc v (x ∷ xs) y = by_test (eqb v x) (λ t. rw (t, elem_of)) (λ t. rw (t, elem_of) (elem_of-snoc v xs y))

pub head-tab : (n : ℕ) (f : ℕ → ℕ) → 0 < n → head_or 0 (tab n f) ≡ f 0
unfolding head_or tab_from
head-tab zero f h = absurd (omega arith)
head-tab (suc n) f h = refl
