-- The turns of a loop that sums or searches a list by index.
-- Assumes nothing.
use Prim.Native.Nat.{ℕ, zero, suc, ◌+◌, ◌-◌, ◌≤◌, ◌<◌}
use mathlib.Core.Path.{◌≡◌, sym, ap, ◌∙◌}
use mathlib.Core.Bool.{Bool, true, false}
use native.Mathlib.Nat.{le_of_suc-le-suc, not-suc-le-zero, suc-add, zero-add, add-suc, add-zero}
use native.Mathlib.Numerals.{add-one}
use native.Mathlib.Omega.{arith}
use Rattle.defs.specs.Lists.{tab_from, tab, sum, any_of, up_from}
use Rattle.laws.proofs.Walks.{by_test}
use Rattle.laws.proofs.ListLaws.{clash}
use Rattle.tabs.proofs.Tabs.{one_less}

-- the numbers that are left after turn i, of n turns
spent : (i n : ℕ) → n ≤ i → n - i ≡ 0
spent i n h = omega arith

start : (n : ℕ) → n - 0 ≡ n
start n = omega arith

pub sum-start : (f : ℕ → ℕ) (n : ℕ) → 0 + sum (tab_from 0 (n - 0) f) ≡ sum (tab n f)
sum-start f n = zero-add _ ∙ ap (λ (k : ℕ). sum (tab k f)) (start n)

-- what turn i adds to a sum
pub sum-turn : (f : ℕ → ℕ) (i n : ℕ) → i < n → sum (tab_from i (n - i) f) ≡ f i + sum (tab_from (i + 1) (n - (i + 1)) f)
unfolding tab_from sum
sum-turn f i n h =
    ap (λ (k : ℕ). sum (tab_from i k f)) (one_less n i h)
    ∙ ap (λ (k : ℕ). f i + sum (tab_from k (n - (i + 1)) f)) (sym (add-one i))

pub sum-spent : (f : ℕ → ℕ) (i n : ℕ) → n ≤ i → sum (tab_from i (n - i) f) ≡ 0
unfolding tab_from sum
sum-spent f i n h = ap (λ (k : ℕ). sum (tab_from i k f)) (spent i n h)

module _ (p : ℕ → Bool) where
  pub any-start : (n : ℕ) → any_of p (up_from 0 (n - 0)) ≡ any_of p (up_from 0 n)
  any-start n = ap (λ (k : ℕ). any_of p (up_from 0 k)) (start n)

  any-cons-no : (i n : ℕ) → p i ≡ false → any_of p (up_from i (suc n)) ≡ any_of p (up_from (suc i) n)
  unfolding any_of up_from
  any-cons-no i n t = rw (t, any_of)

  any-cons-yes : (i n : ℕ) → p i ≡ true → any_of p (up_from i (suc n)) ≡ true
  unfolding any_of up_from
  any-cons-yes i n t = rw (t, any_of)

  -- turn i of a search goes on, or ends it
  pub any-turn : (i n : ℕ) → i < n → p i ≡ false → any_of p (up_from i (n - i)) ≡ any_of p (up_from (i + 1) (n - (i + 1)))
  any-turn i n h t =
      ap (λ (k : ℕ). any_of p (up_from i k)) (one_less n i h)
      ∙ any-cons-no i (n - (i + 1)) t
      ∙ ap (λ (k : ℕ). any_of p (up_from k (n - (i + 1)))) (sym (add-one i))

  pub any_found : (i n : ℕ) → i < n → p i ≡ true → any_of p (up_from i (n - i)) ≡ true
  any_found i n h t = ap (λ (k : ℕ). any_of p (up_from i k)) (one_less n i h) ∙ any-cons-yes i (n - (i + 1)) t

  pub any_none : (i n : ℕ) → n ≤ i → any_of p (up_from i (n - i)) ≡ false
  unfolding any_of up_from
  any_none i n h = ap (λ (k : ℕ). any_of p (up_from i k)) (spent i n h)

  any_step : (s n : ℕ) → any_of p (up_from s (suc n)) ≡ false → (p s ≡ false) × (any_of p (up_from (suc s) n) ≡ false)
  any_step s n h = by_test (p s) (λ t. clash (any-cons-yes s n t) h) (λ t. (t, sym (any-cons-no s n t) ∙ h))

  -- what no number below n passes, i does not pass
  any-false-from : (s n : ℕ) → any_of p (up_from s n) ≡ false → (i : ℕ) → i < n → p (s + i) ≡ false
  any-false-from s zero h i below = absurd (not-suc-le-zero below)
  any-false-from s (suc n) h zero below = ap p (add-zero s) ∙ (any_step s n h).0
  any-false-from s (suc n) h (suc i) below =
      ap p (add-suc s i ∙ sym (suc-add s i)) ∙ any-false-from (suc s) n (any_step s n h).1 i (le_of_suc-le-suc below)

  pub any_false : (n : ℕ) → any_of p (up_from 0 n) ≡ false → (i : ℕ) → i < n → p i ≡ false
  any_false n h i below = ap p (sym (zero-add i)) ∙ any-false-from 0 n h i below
