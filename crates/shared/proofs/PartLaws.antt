-- Parts of the pool by index, from the front and from the back. Assumes nothing.
use mathlib.Core.Path.{◌≡◌, refl, sym, ap, ◌∙◌}
use mathlib.Core.List.{List, [], ◌∷◌, reverse, reverse-append, reverse-reverse}
use Prim.Native.Nat.{ℕ, zero, suc, ◌+◌, ◌-◌, ◌≤◌, ◌<◌}
use native.Mathlib.Numerals.{add-one}
use native.Mathlib.Omega.{arith}
use lib.ListN.{length, get_or, take, drop, length-drop}
use lib.Seq.{ext_get_or, get_or-take, get_or-drop, length-take-le}
use Rattle.defs.specs.Lists.{tab, tab_from}
use Rattle.tabs.proofs.Tabs.{tab-snoc, tab-ext, length-tab, get_or-tab}
use Rattle.store.specs.Store.{part}
use Rattle.store.proofs.VertexLaws.{part-long}

pub part-tab : (p : List ℕ) (a n : ℕ) → a + n ≤ length p → part p a n ≡ tab n (λ (j : ℕ). get_or p (a + j) 0)
part-tab p a n h = ext_get_or 0 _ _ (part-long p a n h ∙ sym (length-tab n _)) (λ i b. byte i (omega (arith, part-long p a n h)))
  where
    byte : (i : ℕ) → i < n → get_or (part p a n) i 0 ≡ get_or (tab n (λ (j : ℕ). get_or p (a + j) 0)) i 0
    byte i b = get_or-take n (drop a p) i 0 b ∙ get_or-drop a p i 0 ∙ sym (get_or-tab n _ i 0 b)

tab-shift : {A : Type 0} (s n : ℕ) (h : ℕ → A) → tab_from (suc s) n h ≡ tab_from s n (λ (j : ℕ). h (suc j))
unfolding tab_from
tab-shift s zero h = refl
tab-shift {A} s (suc n) h = ap (λ (l : List A). h (suc s) ∷ l) (tab-shift (suc s) n h)

reverse-tab : (n : ℕ) (f : ℕ → ℕ) → reverse (tab n f) ≡ tab n (λ (j : ℕ). f (n - 1 - j))
unfolding tab_from
reverse-tab zero f = refl
reverse-tab (suc n) f =
    ap reverse (ap (λ (k : ℕ). tab k f) (sym (add-one n)) ∙ tab-snoc n f) ∙ reverse-append (tab n f) (f n ∷ [])
    ∙ ap (λ (l : List ℕ). f n ∷ l) (reverse-tab n f ∙ tab-ext n (λ (j : ℕ). f (n - 1 - j)) (λ (j : ℕ). f (suc n - 1 - suc j)) (λ j h.
    ap f (omega arith)) ∙ sym (tab-shift 0 n (λ (j : ℕ). f (suc n - 1 - j))))
    ∙ ap (λ (x : ℕ). f x ∷ tab_from 1 n (λ (j : ℕ). f (suc n - 1 - j))) (omega arith)

reverse-part : (p : List ℕ) (a n e : ℕ) → a + n ≡ e → e ≤ length p → reverse (part p a n) ≡ tab n (λ (j : ℕ). get_or p (e - 1 - j) 0)
reverse-part p a n e q h =
    ap reverse (part-tab p a n (omega arith)) ∙ reverse-tab n (λ (j : ℕ). get_or p (a + j) 0)
    ∙ tab-ext n (λ (j : ℕ). get_or p (a + (n - 1 - j)) 0) (λ (j : ℕ). get_or p (e - 1 - j) 0) (λ j b. ap (λ (x : ℕ). get_or p x 0) (omega arith))

pub drop-part : (p : List ℕ) (a n s : ℕ) → s ≤ n → a + n ≤ length p → drop s (part p a n) ≡ part p (a + s) (n - s)
drop-part p a n s h b = ext_get_or 0 _ _ (length-drop s (part p a n) ∙ omega (arith, len, len')) (λ i c. byte i (omega (arith, length-drop s (part p a n), len)))
  where
    len : length (part p a n) ≡ n
    len = part-long p a n b

    len' : length (part p (a + s) (n - s)) ≡ n - s
    len' = part-long p (a + s) (n - s) (omega arith)

    byte : (i : ℕ) → i < n - s → get_or (drop s (part p a n)) i 0 ≡ get_or (part p (a + s) (n - s)) i 0
    byte i c = get_or-drop s (part p a n) i 0 ∙ get_or-take n (drop a p) (s + i) 0 (omega arith) ∙ get_or-drop a p (s + i) 0
        ∙ ap (λ (x : ℕ). get_or p x 0) (omega arith)
        ∙ sym (get_or-take (n - s) (drop (a + s) p) i 0 c ∙ get_or-drop (a + s) p i 0)

pub take_part : (p : List ℕ) (a n s : ℕ) → s ≤ n → a + n ≤ length p → take s (part p a n) ≡ part p a s
take_part p a n s h b = ext_get_or 0 _ _ (length-take-le s (part p a n) (omega (arith, part-long p a n b))
    ∙ sym (part-long p a s (omega arith))) (λ i c. byte i
    (omega (arith, length-take-le s (part p a n) (omega (arith, part-long p a n b)))))
  where
    byte : (i : ℕ) → i < s → get_or (take s (part p a n)) i 0 ≡ get_or (part p a s) i 0
    byte i c = get_or-take s (part p a n) i 0 c ∙ get_or-take n (drop a p) i 0 (omega arith) ∙ sym (get_or-take s (drop a p) i 0 c)

-- a sequence without its first s bytes, from the back
pub back : (p : List ℕ) (a n s : ℕ) → s ≤ n → a + n ≤ length p → reverse (drop s (part p a n)) ≡ tab (n - s) (λ (j : ℕ). get_or p (a + n - 1 - j) 0)
back p a n s h b = ap reverse (drop-part p a n s h b) ∙ reverse-part p (a + s) (n - s) (a + n) (omega arith) b

pub forth : (p : List ℕ) (e r : ℕ) → r ≤ e → e ≤ length p → reverse (tab r (λ (j : ℕ). get_or p (e - 1 - j) 0)) ≡ part p (e - r) r
forth p e r h b = ap reverse (sym (reverse-part p (e - r) r e (omega arith) b)) ∙ reverse-reverse (part p (e - r) r)
