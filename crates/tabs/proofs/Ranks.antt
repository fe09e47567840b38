-- How many numbers below n pass a test. Assumes nothing.
use Prim.Native.Nat.{ℕ, zero, suc, ◌+◌, ◌-◌, ◌≤◌, ◌<◌}
use native.Mathlib.Numerals.{add-one}
use native.Mathlib.Omega.{arith}
use native.Mathlib.Decide.{ℕ_discrete}
use mathlib.Core.Path.{◌≡◌, refl, sym, ap, ◌∙◌}
use mathlib.Core.Bool.{Bool, true, false}
use mathlib.Core.List.{[], ◌∷◌}
use lib.ListN.{length, length-append}
use Rattle.defs.specs.Lists.{rank, bit, tab, tab_from, keep_if}
use Rattle.laws.proofs.Walks.{by_test}
use Rattle.laws.proofs.ListLaws.{rank-yes, rank-no, rank_mono}
use Rattle.laws.proofs.Counts.{Distinct}
use Rattle.tabs.proofs.ListTabs.{keep_if-tab-yes, keep_if-tab-no, of-mem-tab-from}

module _ (p : ℕ → Bool) where
  pub rank_most : (n : ℕ) → rank p n ≤ n
  unfolding rank
  rank_most zero = omega arith
  rank_most (suc n) = by_test (p n) (λ t. omega (arith, rank-yes p n t, rank_most n)) (λ t. omega (arith, rank-no p n t, rank_most n))

  pub rank-some : (n i : ℕ) → i < n → p i ≡ true → 0 < rank p n
  rank-some n i h t = omega (arith, rank-yes p i t, rank_mono p (suc i) n h)

  -- none passes where the number is 0
  pub rank-none : (n i : ℕ) → rank p n ≡ 0 → i < n → p i ≡ false
  rank-none n i z h = by_test (p i) (λ t. absurd (omega (arith, rank-some n i h t))) (λ t. t)

  pub rank-find : {X : Type 0} (n : ℕ) → (rank p n ≡ 0 → X) → ((i : ℕ) → i < n → p i ≡ true → X) → X
  unfolding rank
  rank-find zero z f = z refl
  rank-find (suc n) z f = by_test (p n) (λ t. f n (omega arith) t) (λ t. rank-find n (λ q. z (rank-no p n t ∙ q)) (λ i h. f i (omega arith)))

  pub length-kept : (n : ℕ) → length (keep_if p (tab n (λ (i : ℕ). i))) ≡ rank p n
  unfolding keep_if rank tab_from
  length-kept zero = refl
  length-kept (suc n) = ap (λ (x : ℕ). length (keep_if p (tab x (λ (i : ℕ). i)))) (sym (add-one n)) ∙ by_test (p n)
      (λ t. ap length (keep_if-tab-yes p n (λ (i : ℕ). i) t) ∙ length-append (keep_if p (tab n (λ (i : ℕ). i))) (n ∷ [])
      ∙ omega (arith, length-kept n, rank-yes p n t))
      (λ t. ap length (keep_if-tab-no p n (λ (i : ℕ). i) t) ∙ length-kept n ∙ sym (rank-no p n t))

module _ (p q : ℕ → Bool) where
  pub rank_same : (n : ℕ) → ((i : ℕ) → i < n → p i ≡ q i) → rank p n ≡ rank q n
  unfolding rank
  rank_same zero h = refl
  rank_same (suc n) h = omega (arith, ap bit (h n (omega arith)), rank_same n (λ i b. h i (omega arith)))

  -- one test less is passed
  pub rank_less : (n d : ℕ) → d < n → p d ≡ true → q d ≡ false → ((i : ℕ) → i < n → (i ≡ d → ⊥) → p i ≡ q i) → rank p n ≡ suc (rank q n)
  rank_less zero d h t f o = absurd (omega arith)
  rank_less (suc n) d h t f o = elim (ℕ_discrete d n) [
    | yes e ↦ (let s = rank_same n (λ i b. o i (omega arith) (λ z. omega arith)) in
        omega (arith, rank-yes p n (ap p (sym e) ∙ t), rank-no q n (ap q (sym e) ∙ f)))
    | no ne ↦ (let r = rank_less n d (omega arith) t f (λ i b. o i (omega arith)) in
        let e = o n (omega arith) (λ z. ne (sym z)) in
        by_test (p n) (λ y. omega (arith, rank-yes p n y, rank-yes q n (sym e ∙ y))) (λ y. omega (arith, rank-no p n y, rank-no q n (sym e ∙ y))))
  ]

-- different places hold different numbers
distinct_from : (f : ℕ → ℕ) (s n : ℕ) → ((i j : ℕ) → s ≤ i → i < s + n → s ≤ j → j < s + n → f i ≡ f j → i ≡ j) → Distinct (tab_from s n f)
unfolding tab_from
distinct_from f s zero h = tt
distinct_from f s (suc n) h = (
  λ m. let r = of-mem-tab-from (suc s) n f m in omega (arith, h s (suc s + r.0) (omega arith) (omega arith) (omega arith) (omega (arith, r.1)) r.2),
  distinct_from f (suc s) n (λ i j a b c d. h i j (omega arith) (omega arith) (omega arith) (omega arith)),
)

pub distinct-tab : (f : ℕ → ℕ) (n : ℕ) → ((i j : ℕ) → i < n → j < n → f i ≡ f j → i ≡ j) → Distinct (tab n f)
distinct-tab f n h = distinct_from f 0 n (λ i j a b c d. h i j (omega arith) (omega arith))
