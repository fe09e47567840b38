-- Sums, concatenations and maps along lists by index. Assumes nothing.
use mathlib.Core.Path.{◌≡◌, refl, sym, ap, ◌∙◌}
use mathlib.Core.List.{List, [], ◌∷◌, ◌++◌, map, append_assoc, append-nil}
use Prim.Native.Nat.{ℕ, zero, suc, ◌+◌, ◌*◌, ◌≤◌, ◌<◌}
use native.Mathlib.Nat.{mul-zero, mul-suc}
use native.Mathlib.Numerals.{add-one}
use native.Mathlib.Omega.{arith}
use native.Mathlib.Decide.{ℕ_discrete}
use lib.ListN.{length, length-append}
use Rattle.defs.specs.Lists.{tab, tab_from, sum, concat}
use Rattle.defs.specs.Simplify.{sequence_bytes}
use Rattle.laws.proofs.Counts.{total}
use Rattle.tabs.proofs.Tabs.{tab-snoc}

sum-snoc : (xs : List ℕ) (y : ℕ) → sum (xs ++ (y ∷ [])) ≡ sum xs + y
unfolding sum
sum-snoc [] y = omega arith
sum-snoc (x ∷ xs) y = omega (arith, sum-snoc xs y)

pub sum-none : (f : ℕ → ℕ) → sum (tab 0 f) ≡ 0
unfolding sum tab_from
sum-none f = refl

pub sum_more : (n : ℕ) (f : ℕ → ℕ) → sum (tab (n + 1) f) ≡ sum (tab n f) + f n
sum_more n f = ap sum (tab-snoc n f) ∙ sum-snoc (tab n f) (f n)

pub sum-suc : (n : ℕ) (f : ℕ → ℕ) → sum (tab (suc n) f) ≡ sum (tab n f) + f n
sum-suc n f = ap (λ (x : ℕ). sum (tab x f)) (sym (add-one n)) ∙ sum_more n f

-- what stands before i, with i, is at most all
pub sum_below : (n i : ℕ) (f : ℕ → ℕ) → i < n → sum (tab i f) + f i ≤ sum (tab n f)
sum_below zero i f h = absurd (omega arith)
sum_below (suc n) i f h = elim (ℕ_discrete i n) [
  | yes q ↦ rw q (omega (arith, sum-suc n f))
  | no ne ↦ omega (arith, sum-suc n f, sum_below n i f (omega arith))
]

-- n numbers of at most w, of at least w, and of w
pub sum-most : (w n : ℕ) (f : ℕ → ℕ) → ((i : ℕ) → i < n → f i ≤ w) → sum (tab n f) ≤ w * n
sum-most w zero f h = omega (arith, sum-none f)
sum-most w (suc n) f h = omega (arith, sum-suc n f, h n (omega arith), sum-most w n f (λ i b. h i (omega arith)), mul-suc w n)

pub sum-least : (w n : ℕ) (f : ℕ → ℕ) → ((i : ℕ) → i < n → w ≤ f i) → w * n ≤ sum (tab n f)
sum-least w zero f h = omega (arith, mul-zero w)
sum-least w (suc n) f h = omega (arith, sum-suc n f, h n (omega arith), sum-least w n f (λ i b. h i (omega arith)), mul-suc w n)

pub sum-equal : (w n : ℕ) (f : ℕ → ℕ) → ((i : ℕ) → i < n → f i ≡ w) → sum (tab n f) ≡ w * n
sum-equal w n f h = omega (arith, sum-most w n f (λ i b. omega (arith, h i b)), sum-least w n f (λ i b. omega (arith, h i b)))

-- the bytes of sequences, as a sum
pub bytes-sum : (vs : List (List ℕ)) → sequence_bytes vs ≡ sum (map length vs)
unfolding sequence_bytes sum
bytes-sum [] = refl
bytes-sum (v ∷ vs) = ap (λ (n : ℕ). length v + n) (bytes-sum vs)

-- a total along a list, as a sum
pub total-sum : {A : Type 0} (f : A → ℕ) (l : List A) → total f l ≡ sum (map f l)
unfolding total sum
total-sum f [] = refl
total-sum f (x ∷ l) = ap (λ (y : ℕ). f x + y) (total-sum f l)

module _ {A : Type 0} where
  pub concat-append : (xs ys : List (List A)) → concat (xs ++ ys) ≡ concat xs ++ concat ys
  unfolding concat
  concat-append [] ys = refl
  concat-append (x ∷ xs) ys = ap (λ (l : List A). x ++ l) (concat-append xs ys) ∙ sym (append_assoc x (concat xs) (concat ys))

  pub concat-snoc : (xs : List (List A)) (y : List A) → concat (xs ++ (y ∷ [])) ≡ concat xs ++ y
  unfolding concat
  concat-snoc xs y = concat-append xs (y ∷ []) ∙ ap (λ (l : List A). concat xs ++ l) (append-nil y)

module _ {A B : Type 0} (f : A → B) where
  map-tab-from : (s n : ℕ) (g : ℕ → A) → map f (tab_from s n g) ≡ tab_from s n (λ (i : ℕ). f (g i))
  unfolding tab_from
  map-tab-from s zero g = refl
  map-tab-from s (suc n) g = ap (λ (l : List B). f (g s) ∷ l) (map-tab-from (suc s) n g)

  pub map-tab : (n : ℕ) (g : ℕ → A) → map f (tab n g) ≡ tab n (λ (i : ℕ). f (g i))
  map-tab n g = map-tab-from 0 n g

-- lists by index, one after the other
module _ (f : ℕ → List ℕ) where
  abbrev pub fields : ℕ → List ℕ
  fields i = concat (tab i f)

  pub fields-none : concat (tab 0 f) ≡ []
  unfolding concat tab_from
  fields-none = refl

  pub fields-more : (i : ℕ) → concat (tab (i + 1) f) ≡ concat (tab i f) ++ f i
  fields-more i = ap concat (tab-snoc i f) ∙ concat-snoc (tab i f) (f i)

  pub fields-length : (g : ℕ → ℕ) (n : ℕ) → ((i : ℕ) → i < n → length (f i) ≡ g i) → length (concat (tab n f)) ≡ sum (tab n g)
  fields-length g zero h = ap length fields-none ∙ sym (sum-none g)
  fields-length g (suc n) h =
      ap (λ (x : ℕ). length (concat (tab x f))) (sym (add-one n))
      ∙ ap length (fields-more n)
      ∙ length-append (concat (tab n f)) (f n)
      ∙ omega (arith, fields-length g n (λ i b. h i (omega arith)), h n (omega arith), sum_more n g, ap (λ (x : ℕ). sum (tab x g)) (sym (add-one n)))
