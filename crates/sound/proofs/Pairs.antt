-- Two members of a list that are alike: the shape of both tests of refusal 6. Assumes nothing.
use mathlib.Core.Path.{◌≡◌, refl, sym, ◌∙◌}
use mathlib.Core.Logic.{⊎_elim}
use mathlib.Core.Bool.{Bool, true, false, ◌||◌}
use mathlib.Core.List.{List, [], ◌∷◌}
use Prim.Native.Nat.{ℕ, zero, suc, ◌<◌}
use native.Mathlib.Omega.{arith}
use lib.ListN.{length, get_or}
use Rattle.defs.specs.Lists.{any_of}
use Rattle.laws.proofs.Walks.{by_test}
use Rattle.laws.proofs.ListLaws.{clash, or_cases, any-yes, any-no, or_left, or_right}

module _ {A : Type 0} (p : A → Bool) (d : A) where
  -- a member that passes, with its place
  any_at : {X : Type 0} (l : List A) → any_of p l ≡ true → ((i : ℕ) → i < length l → p (get_or l i d) ≡ true → X) → X
  unfolding any_of
  any_at [] t k = clash t refl
  any_at (x ∷ xs) t k = by_test (p x)
      (λ u. k 0 (omega arith) u)
      (λ u. any_at xs (sym (any-no p x xs u) ∙ t) (λ i b v. k (suc i) (omega arith) v))

  at-any : (l : List A) (i : ℕ) → i < length l → p (get_or l i d) ≡ true → any_of p l ≡ true
  at-any [] i b t = absurd (omega arith)
  at-any (x ∷ xs) zero b t = any-yes p x xs t
  at-any (x ∷ xs) (suc i) b t = by_test (p x) (λ u. any-yes p x xs u) (λ u. any-no p x xs u ∙ at-any xs i (omega arith) t)

-- F tests whether some member is alike to a later one
module _ {A : Type 0} (R : A → A → Bool) (d : A) (F : List A → Bool) (none : F [] ≡ false) (some : (x : A) (xs : List A) → F (x ∷ xs)
    ≡ (any_of (R x) xs || F xs)) where
  pub pair_of : {X : Type 0} (l : List A) → F l ≡ true → ((i j : ℕ) → i < j → j < length l → R (get_or l i d) (get_or l j d) ≡ true → X) → X
  pair_of [] t k = clash t none
  pair_of (x ∷ xs) t k = ⊎_elim
      (λ a. any_at (R x) d xs a (λ j b v. k 0 (suc j) (omega arith) (omega arith) v))
      (λ a. pair_of xs a (λ i j o b v. k (suc i) (suc j) (omega arith) (omega arith) v))
      (or_cases (any_of (R x) xs) (F xs) (sym (some x xs) ∙ t))

  pub of_pair : (l : List A) (i j : ℕ) → i < j → j < length l → R (get_or l i d) (get_or l j d) ≡ true → F l ≡ true
  of_pair [] i j o b t = absurd (omega arith)
  of_pair (x ∷ xs) i zero o b t = absurd (omega arith)
  of_pair (x ∷ xs) zero (suc j) o b t = some x xs ∙ or_left (any_of (R x) xs) (F xs) (at-any (R x) d xs j (omega arith) t)
  of_pair (x ∷ xs) (suc i) (suc j) o b t = some x xs ∙ or_right (any_of (R x) xs) (F xs) (of_pair xs i j (omega arith) (omega arith) t)
