-- Directions and numbers. Assumes nothing.
use mathlib.Core.Path.{◌≡◌, refl}
use mathlib.Core.Bool.{Bool, true, false}
use mathlib.Core.List.{List}
use Prim.Native.Nat.{ℕ, zero, suc, ◌<◌}
use native.Mathlib.Omega.{arith}
use denote.Enum.Declared.{tag_of}
use Rattle.reach.specs.contracts.Direction.{the_type}
use Rattle.reach.specs.declared.Direction.{Direction}
use Rattle.reach.specs.declared.Direction.TheVariants.{Along, Against, Either}
use Rattle.reach.specs.Reach.{direction_number, step_of, walk_step, Reached}

-- a direction as a number
pub number-is : (d : Direction) → tag_of the_type d ≡ direction_number d
number-is Along = refl
number-is Against = refl
number-is Either = refl

-- every number above 1 is either way
pub reached-either : (plain : Bool) (kind : ℕ) {m n : ℕ} {es : List ℕ} {s : ℕ} {marks : List ℕ} → 1 < kind
    → Reached plain 2 m n es s marks → Reached plain kind m n es s marks
unfolding walk_step step_of
reached-either plain zero h R = absurd (omega arith)
reached-either plain (suc zero) h R = absurd (omega arith)
reached-either true (suc (suc k)) h R = record { at = R.at }
reached-either false (suc (suc k)) h R = record { at = R.at }
