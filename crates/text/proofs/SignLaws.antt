-- A difference of two counts as a signed number of 32 bits, and a number with its sign. Assumes nothing.
use Prim.Native.Nat.{ℕ, zero, suc, ◌+◌, ◌<◌, ◌^◌}
use mathlib.Core.Path.{◌≡◌, refl, ap, ◌∙◌}
use mathlib.Core.Bool.{Bool, true, false, cond}
use mathlib.Core.List.{List, [], ◌∷◌, ◌++◌}
use native.Mathlib.Omega.{arith}
use lib.Dec.{T, ltb}
use lib.ListN.{set}
use lib.IntN.{ℤ, pos, negsuc, ◌-ℤ◌, nat_abs}
use lib.Signed.{mag, lt_z, non_neg}
use borrow.Author.Tests.{ltb-true}
use mir.Syntax.{w32}
use mir.Val.{Fits, SFits, to_z, of_z}
use mir.Facts.{to_z-of_z, to_z_pos}
use Rattle.defs.specs.Lists.{tab_from}
use Rattle.text.specs.Printed.{ascii, decimal, signed, surplus}
use Rattle.text.specs.Put.{TextPut}
use Rattle.text.proofs.TextLaws.{put_one, put_then, put_as, put-most}

-- ---- the difference

either : (t : Bool) {x y m : ℕ} → x < m → y < m → mag (cond t (negsuc x) (pos y)) < m
either true p q = p
either false p q = q

-- the difference of two numbers below m is of a magnitude below m
mag-sub : (a b : ℕ) {m : ℕ} → a < m → b < m → mag (pos a -ℤ pos b) < m
mag-sub a zero p q = omega arith
mag-sub a (suc b) p q = either (ltb a (suc b)) (omega arith) (omega arith)

fits_sub : (a b : ℕ) → a < 65536 → b < 65536 → SFits w32 (pos a -ℤ pos b)
fits_sub a b p q = let h = mag-sub a b p q in record { sfits = omega arith }

small : {a : ℕ} → a < 65536 → a < 2 ^ 31
small h = omega arith

pub sub-fits : (a b : ℕ) → a < 65536 → b < 65536 → SFits w32 (to_z w32 a -ℤ to_z w32 b)
sub-fits a b p q = rw (to_z_pos w32 (small p), to_z_pos w32 (small q)) (fits_sub a b p q)

pub difference : (a b : ℕ) → a < 65536 → b < 65536 → let z = to_z w32 (of_z w32 (to_z w32 a -ℤ to_z w32 b)) in (z ≡ surplus a b) × (mag z < 65536)
unfolding surplus
difference a b p q = rw (to_z-of_z (sub-fits a b p q), to_z_pos w32 (small p), to_z_pos w32 (small q)) (refl, mag-sub a b p q)

-- a number of that size is the one that 32 bits hold
pub word_of : {z : ℤ} → mag z < 65536 → to_z w32 (of_z w32 z) ≡ z
word_of {z} h = to_z-of_z {w = w32} record { sfits = omega arith }

-- ---- a number with its sign

-- below zero: the negation is not, and has the same magnitude
neg-fits : (x : ℤ) → mag x < 65536 → lt_z x (pos 0) ≡ true → SFits w32 (pos 0 -ℤ x)
neg-fits (pos n) h t = absurd (omega (arith, ltb-true n 0 t))
neg-fits (negsuc n) h t = record { sfits = omega arith }

neg-cast : (x : ℤ) → mag x < 65536 → lt_z x (pos 0) ≡ true → T (non_neg (pos 0 -ℤ x)) × Fits w32 (nat_abs (pos 0 -ℤ x))
neg-cast (pos n) h t = absurd (omega (arith, ltb-true n 0 t))
neg-cast (negsuc n) h t = (tt, record { fits = omega arith })

same-cast : (x : ℤ) → mag x < 65536 → lt_z x (pos 0) ≡ false → T (non_neg x) × Fits w32 (nat_abs x)
same-cast (pos n) h t = (tt, record { fits = omega arith })
same-cast (negsuc n) h t = let z : ◌≡◌ {A = ℕ} 0 1 = cc in absurd (omega arith)

signed_below : (x : ℤ) → lt_z x (pos 0) ≡ true → (45 ∷ []) ++ decimal (nat_abs (pos 0 -ℤ x)) ≡ signed x
unfolding signed ascii tab_from
signed_below (pos n) t = absurd (omega (arith, ltb-true n 0 t))
signed_below (negsuc n) t = let e : nat_abs (pos 0 -ℤ negsuc n) ≡ suc n = omega arith in ap (λ (k : ℕ). 45 ∷ decimal k) e

signed_same : (x : ℤ) → lt_z x (pos 0) ≡ false → decimal (nat_abs x) ≡ signed x
unfolding signed
signed_same (pos n) t = refl
signed_same (negsuc n) t = let z : ◌≡◌ {A = ℕ} 0 1 = cc in absurd (omega arith)

module _ {x : ℤ} (F : SFits w32 x) (h : mag x < 65536) where
  module _ (t : lt_z (to_z w32 (of_z w32 x)) (pos 0) ≡ true) where
    below : lt_z x (pos 0) ≡ true
    below = rw (to_z-of_z F) at t

    pub below-fits : SFits w32 (pos 0 -ℤ to_z w32 (of_z w32 x))
    below-fits = rw (to_z-of_z F) (neg-fits x h below)

    is-neg : to_z w32 (of_z w32 (pos 0 -ℤ to_z w32 (of_z w32 x))) ≡ pos 0 -ℤ x
    is-neg = to_z-of_z below-fits ∙ ap (λ (z : ℤ). pos 0 -ℤ z) (to_z-of_z F)

    pub below-cast : let z = to_z w32 (of_z w32 (pos 0 -ℤ to_z w32 (of_z w32 x))) in T (non_neg z) × Fits w32 (nat_abs z)
    below-cast = rw is-neg (neg-cast x h below)

    pub below_put : {text text' : List ℕ} {at r : ℕ} → TextPut 10 (decimal (nat_abs (to_z w32 (of_z w32 (pos 0 -ℤ to_z w32 (of_z w32 x))))))
        (set text at 45) (at + 1) r text' → TextPut 11 (signed x) text at r text'
    below_put {text} {text'} {at} {r} P = put_as (ap (λ (z : ℤ). (45 ∷ []) ++ decimal (nat_abs z)) is-neg ∙ signed_below x below)
        (put_then (put_one text at (at + 1) refl refl) P)

  module _ (t : lt_z (to_z w32 (of_z w32 x)) (pos 0) ≡ false) where
    same : lt_z x (pos 0) ≡ false
    same = rw (to_z-of_z F) at t

    pub same-fits : T (non_neg (to_z w32 (of_z w32 x))) × Fits w32 (nat_abs (to_z w32 (of_z w32 x)))
    same-fits = rw (to_z-of_z F) (same-cast x h same)

    pub same-put : {text text' : List ℕ} {at r : ℕ} → TextPut 10 (decimal (nat_abs (to_z w32 (of_z w32 x)))) text at r text' → TextPut 11 (signed x) text at r text'
    same-put P = put-most (omega arith) (put_as (ap (λ (z : ℤ). decimal (nat_abs z)) (to_z-of_z F) ∙ signed_same x same) P)
