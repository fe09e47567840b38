-- What a flag says, written and read, both ways.
-- Assumes nothing.
use Prim.Native.Nat.{ℕ, zero, suc, ◌+◌, ◌*◌, ◌≤◌}
use native.Mathlib.Omega.{arith}
use mathlib.Core.Path.{◌≡◌, refl}
use mathlib.Core.Bool.{Bool, true, false}
use Rattle.defs.specs.Lists.{bit}
use Rattle.defs.specs.SeqGraph.{Edge}
use Rattle.defs.specs.Record.{flag_of, flag_is_ref, flag_is_capped}

-- what is read of a flag that was written
pub flag-says-ref : (r c : Bool) → flag_is_ref (bit r + 2 * bit c) ≡ r
unfolding bit
flag-says-ref true true = refl
flag-says-ref true false = refl
flag-says-ref false true = refl
flag-says-ref false false = refl

pub flag-says-capped : (r c : Bool) → flag_is_capped (bit r + 2 * bit c) ≡ c
unfolding bit
flag-says-capped true true = refl
flag-says-capped true false = refl
flag-says-capped false true = refl
flag-says-capped false false = refl

pub flag_small : (e : Edge) → flag_of e ≤ 3
unfolding flag_of bit
flag_small e = small e.is_ref e.capped
  where
    small : (r c : Bool) → bit r + 2 * bit c ≤ 3
    small true true = omega arith
    small true false = omega arith
    small false true = omega arith
    small false false = omega arith

-- what is written of a flag that was read
pub flag-back : (f : ℕ) → f ≤ 3 → bit (flag_is_ref f) + 2 * bit (flag_is_capped f) ≡ f
unfolding bit
flag-back zero h = refl
flag-back (suc zero) h = refl
flag-back (suc (suc zero)) h = refl
flag-back (suc (suc (suc zero))) h = refl
flag-back (suc (suc (suc (suc f)))) h = absurd (omega arith)

-- the flag of an edge that is not capped
pub plain-says-ref : (r : Bool) → flag_is_ref (bit r) ≡ r
unfolding bit
plain-says-ref true = refl
plain-says-ref false = refl

pub plain-not-capped : (r : Bool) → flag_is_capped (bit r) ≡ false
unfolding bit
plain-not-capped true = refl
plain-not-capped false = refl
