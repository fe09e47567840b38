-- Parts of slices in the words of the contracts: what one holds once it was written, and whether two are the same. Assumes nothing.
use Prim.Native.Nat.{ℕ, ◌+◌, ◌≤◌}
use mathlib.Core.Bool.{true, false, ◌&&◌}
use mathlib.Core.List.{List, [], ◌∷◌, ◌++◌, append_assoc}
use mathlib.Core.Path.{◌≡◌, refl, sym, ap, ◌∙◌}
use native.Mathlib.Omega.{arith}
use lib.Dec.{eqb}
use lib.Pointwise.{pointwise}
use lib.ListN.{length, take, drop}
use lib.Seq.{drop-drop, sets}
use borrow.Rule.Slice.PartMut.{put_mid}
use Rattle.std.proofs.lemmas.List.Edits.{sets-eq}
use Rattle.defs.specs.Lists.{same_list}

-- after a write of the whole of `s[a..a + k]`: xs is what s held, ys is what the part holds now
pub put_mid-sets : (a k : ℕ) (xs ys zs : List ℕ) → ys ≡ zs → k ≡ length zs → a + k ≤ length xs → put_mid a k xs ys ≡ sets xs a zs
put_mid-sets a k xs ys zs e q h =
    ap (λ (l : List ℕ). take a xs ++ (l ++ drop k (drop a xs))) e
    ∙ ap (λ (l : List ℕ). take a xs ++ (zs ++ l)) (drop-drop k a xs ∙ ap (λ (n : ℕ). drop (a + n) xs) q)
    ∙ sym (append_assoc (take a xs) zs _)
    ∙ sym (sets-eq zs xs a (omega arith))

-- after a write of the whole of `s[..k]`
pub put_front-sets : (k : ℕ) (xs ys zs : List ℕ) → ys ≡ zs → k ≡ length zs → k ≤ length xs → ys ++ drop k xs ≡ sets xs 0 zs
put_front-sets k xs ys zs e q h =
    ap (λ (l : List ℕ). l ++ drop k xs) e
    ∙ ap (λ (n : ℕ). zs ++ drop n xs) (omega arith)
    ∙ sym (sets-eq zs xs 0 (omega arith))

-- `==` of slices of numbers
pub pointwise-same : (xs ys : List ℕ) → pointwise eqb xs ys ≡ same_list xs ys
unfolding same_list
pointwise-same [] [] = refl
pointwise-same [] (y ∷ ys) = refl
pointwise-same (x ∷ xs) [] = refl
pointwise-same (x ∷ xs) (y ∷ ys) =
    elim (eqb x y) as (λ b. (b && pointwise eqb xs ys) ≡ (elim b [ true ↦ same_list xs ys | false ↦ false ]))
    [ true ↦ pointwise-same xs ys | false ↦ refl ]
