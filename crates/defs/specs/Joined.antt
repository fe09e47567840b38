-- Several edges joined, and what they carry together. Assumes nothing.
use Rattle.std.specs.Prelude.{ℕ, min, ◌≡◌, ◌||◌, List, [], ◌∷◌, map, ltb}
use Rattle.defs.specs.Lists.{any_of, sum}
use Rattle.defs.specs.SeqGraph.{EdgeData, joined_data}

-- an edge and then each of the others, joined in order
unfoldable pub joined_from : EdgeData → List EdgeData → EdgeData
joined_from a [] = a
joined_from a (b ∷ bs) = joined_from (joined_data a b) bs

-- the true sum of the supports; an edge that is capped already counts with the support that it has
unfoldable pub true_sum : List EdgeData → ℕ
true_sum ds = sum (map (λ d. d.support) ds)

-- d is what the edges of the list carry together
pub record IsJoinOf (ds : List EdgeData) (d : EdgeData) : Type 0 where
  -- the true sum, or 2^32 - 1 where that is less
  pub support : d.support ≡ min (true_sum ds) 4294967295
  -- reference if any was
  pub is_ref : d.is_ref ≡ any_of (λ x. x.is_ref) ds
  -- capped if any was, or if the true sum passes 2^32 - 1
  pub capped : d.capped ≡ (any_of (λ x. x.capped) ds || ltb 4294967295 (true_sum ds))

-- the same members, each as often, in another order
module _ {A : Type 0} where
  pub data Reordered : List A → List A → Type 0 where
    none : Reordered [] []
    keep : {x : A} {l m : List A} → Reordered l m → Reordered (x ∷ l) (x ∷ m)
    swap : {x y : A} {l : List A} → Reordered (x ∷ y ∷ l) (y ∷ x ∷ l)
    then : {l m n : List A} → Reordered l m → Reordered m n → Reordered l n
