-- Lists that are written one behind the other, and their parts.
-- Assumes nothing.
use Prim.Native.Nat.{ℕ, zero, suc, ◌+◌, ◌*◌, ◌<◌}
use mathlib.Core.Path.{◌≡◌, refl, sym, ap, ◌∙◌}
use mathlib.Core.List.{List, [], ◌∷◌, ◌++◌, map, append_assoc}
use native.Mathlib.Nat.{le_of_suc-le-suc, not-suc-le-zero, mul-suc, mul-zero}
use native.Mathlib.Numerals.{add-one}
use native.Mathlib.Omega.{arith}
use lib.ListN.{length, get_or, take, drop, length-append}
use lib.Seq.{take-add, drop-drop, take-append_seam, drop-append-add}
use Rattle.defs.specs.Lists.{concat, tab_from, tab, sum}
use Rattle.tabs.proofs.Tabs.{tab-snoc, tab-ext}
use Rattle.tabs.proofs.SumTabs.{sum-suc, concat-snoc}
use Rattle.le.proofs.LeLaws.{get_or-middle}

module _ {A : Type 0} where
  tab_from-shift : (s n : ℕ) (f : ℕ → A) → tab_from (suc s) n f ≡ tab_from s n (λ i. f (suc i))
  unfolding tab_from
  tab_from-shift s zero f = refl
  tab_from-shift s (suc n) f = ap (λ (r : List A). f (suc s) ∷ r) (tab_from-shift (suc s) n f)

  tab-cons : (n : ℕ) (f : ℕ → A) → tab (suc n) f ≡ f 0 ∷ tab n (λ i. f (suc i))
  unfolding tab_from
  tab-cons n f = ap (λ (r : List A). f 0 ∷ r) (tab_from-shift 0 n f)

  concat-more : (n : ℕ) (f : ℕ → List A) → concat (tab (suc n) f) ≡ concat (tab n f) ++ f n
  concat-more n f = ap (λ (k : ℕ). concat (tab k f)) (sym (add-one n)) ∙ ap concat (tab-snoc n f) ∙ concat-snoc (tab n f) (f n)

pub sum-const : (n w : ℕ) → sum (tab n (λ _. w)) ≡ w * n
unfolding tab_from sum
sum-const zero w = sym (mul-zero w)
sum-const (suc n) w = sum-suc n (λ _. w) ∙ omega (arith, sum-const n w, mul-suc w n)

module _ {A : Type 0} (bs : List A) (s : ℕ) where
  -- parts of lengths l 0, l 1, .. one behind the other are one part
  pub concat-parts : (l : ℕ → ℕ) (n : ℕ) → concat (tab n (λ i. take (l i) (drop (s + sum (tab i l)) bs))) ≡ take (sum (tab n l)) (drop s bs)
  unfolding tab_from concat sum
  concat-parts l zero = refl
  concat-parts l (suc n) =
      concat-more n (λ i. take (l i) (drop (s + sum (tab i l)) bs))
      ∙ ap (λ (r : List A). r ++ take (l n) (drop (s + sum (tab n l)) bs)) (concat-parts l n)
      ∙ ap (λ (r : List A). take (sum (tab n l)) (drop s bs) ++ take (l n) r) (sym (drop-drop (sum (tab n l)) s bs))
      ∙ sym (take-add (sum (tab n l)) (l n) (drop s bs))
      ∙ ap (λ (k : ℕ). take k (drop s bs)) (sym (sum-suc n l))

  -- the same for parts of one width
  pub concat-widths : (w n : ℕ) → concat (tab n (λ i. take w (drop (s + w * i) bs))) ≡ take (w * n) (drop s bs)
  concat-widths w n =
      ap concat (tab-ext n _ _ (λ i _. ap (λ (k : ℕ). take w (drop (s + k) bs)) (sym (sum-const i w))))
      ∙ concat-parts (λ _. w) n
      ∙ ap (λ (k : ℕ). take k (drop s bs)) (sum-const n w)

-- a member is the part behind those before it
pub part-of-concat : {A : Type 0} (vs : List (List A)) (i : ℕ) → i < length vs
    → take (length (get_or vs i [])) (drop (sum (tab i (λ j. length (get_or vs j [])))) (concat vs)) ≡ get_or vs i []
unfolding concat tab_from sum
part-of-concat [] i h = absurd (not-suc-le-zero h)
part-of-concat (v ∷ vs) zero h = take-append_seam v (concat vs)
part-of-concat (v ∷ vs) (suc i) h =
    ap (λ (k : ℕ). take (length (get_or vs i [])) (drop k (v ++ concat vs))) (ap sum (tab-cons i (λ j. length (get_or (v ∷ vs) j []))))
    ∙ ap (λ (r : List _). take (length (get_or vs i [])) r) (drop-append-add v (concat vs) (sum (tab i (λ j. length (get_or vs j [])))))
    ∙ part-of-concat vs i (le_of_suc-le-suc h)

-- m stands in bs at s
pub record Shows (bs : List ℕ) (s : ℕ) (m : List ℕ) : Type 0 where
  pub at : (j : ℕ) → j < length m → get_or bs (s + j) 0 ≡ get_or m j 0

pub shows-middle : (a m b : List ℕ) (s : ℕ) → length a ≡ s → Shows (a ++ m ++ b) s m
shows-middle a m b s e = record { at = λ j h. get_or-middle a m b s j e h }

module _ {A : Type 0} (f : A → List ℕ) (w : ℕ) (width : (x : A) → length (f x) ≡ w) where
  pub length_fields : (xs : List A) → length (concat (map f xs)) ≡ w * length xs
  unfolding concat
  length_fields [] = sym (mul-zero w)
  length_fields (x ∷ xs) =
      length-append (f x) (concat (map f xs)) ∙ omega (arith, width x, length_fields xs, mul-suc w (length xs))

  cons-fields : (a b : List ℕ) (x : A) (xs : List A) → a ++ concat (map f (x ∷ xs)) ++ b ≡ (a ++ f x) ++ concat (map f xs) ++ b
  unfolding concat
  cons-fields a b x xs = ap (λ (r : List ℕ). r ++ b) (sym (append_assoc a (f x) (concat (map f xs))))

  first_field : (a b : List ℕ) (s : ℕ) (x : A) (xs : List A) → length a ≡ s → Shows (a ++ concat (map f (x ∷ xs)) ++ b) (s + w * 0) (f x)
  first_field a b s x xs e =
      let l : a ++ concat (map f (x ∷ xs)) ++ b ≡ a ++ f x ++ (concat (map f xs) ++ b) =
      cons-fields a b x xs ∙ append_assoc (a ++ f x) (concat (map f xs)) b in
      let k : s + w * 0 ≡ s = omega (arith, mul-zero w) in
      rw (l, k) (shows-middle a (f x) (concat (map f xs) ++ b) s e)

  later-field : (a b : List ℕ) (s : ℕ) (x : A) (xs : List A) (i : ℕ) (m : List ℕ)
      → Shows ((a ++ f x) ++ concat (map f xs) ++ b) (s + w + w * i) m
      → Shows (a ++ concat (map f (x ∷ xs)) ++ b) (s + w * suc i) m
  later-field a b s x xs i m h =
      let k : s + w * suc i ≡ s + w + w * i = omega (arith, mul-suc w i) in
      rw (cons-fields a b x xs, k) h

  -- fields of one width, written one behind the other: each stands in its place
  pub shows-field : (a b : List ℕ) (s : ℕ) (xs : List A) (d : A) (i : ℕ) → length a ≡ s → i < length xs
      → Shows (a ++ concat (map f xs) ++ b) (s + w * i) (f (get_or xs i d))
  shows-field a b s [] d i e h = absurd (not-suc-le-zero h)
  shows-field a b s (x ∷ xs) d zero e h = first_field a b s x xs e
  shows-field a b s (x ∷ xs) d (suc i) e h =
      later-field a b s x xs i (f (get_or xs i d)) (shows-field (a ++ f x) b (s + w) xs d i (length-append a (f x) ∙ omega (arith, width x)) (le_of_suc-le-suc h))
