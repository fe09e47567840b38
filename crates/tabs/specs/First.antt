-- Where in a list something is. Assumes nothing.
use Rattle.std.specs.Prelude.{ℕ, zero, suc, Bool, cond, List, [], ◌∷◌}

-- the index of the first element that passes the test, or the length
unfoldable pub first_ix : {A : Type 0} → (A → Bool) → List A → ℕ
first_ix p [] = zero
first_ix p (x ∷ xs) = cond (p x) zero (suc (first_ix p xs))
