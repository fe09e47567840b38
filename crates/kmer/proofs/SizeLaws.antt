-- What each answer says of the number.
-- Assumes nothing.
use Prim.Native.Nat.{ℕ}
use mathlib.Core.Path.{◌≡◌, refl, sym, ap}
use mathlib.Core.Bool.{Bool, true, false, cond}
use native.Mathlib.Omega.{arith}
use Rattle.kmer.specs.Size.{k_past_limit, size_of}
use Rattle.kmer.specs.declared.KmerSize.{KmerSize}
use Rattle.std.specs.Prelude.{Option, Some, None}

refused-test : (b : Bool) (n : ℕ) → cond {A = Option KmerSize} b None (Some record { 0 = n }) ≡ None → b ≡ true
refused-test true n e = refl
refused-test false n e = let z : ◌≡◌ {A = ℕ} 0 1 = cc in absurd (omega arith)

made-test : (b : Bool) (n : ℕ) (k : KmerSize) → cond {A = Option KmerSize} b None (Some record { 0 = n }) ≡ Some k → b ≡ false
made-test true n k e = let z : ◌≡◌ {A = ℕ} 0 1 = cc in absurd (omega arith)
made-test false n k e = refl

pub refused-past : (n : ℕ) → size_of n ≡ None → k_past_limit n ≡ true
unfolding size_of
refused-past n e = refused-test (k_past_limit n) n e

pub made-within : (n : ℕ) {k : KmerSize} → size_of n ≡ Some k → k_past_limit n ≡ false
unfolding size_of
made-within n {k} e = made-test (k_past_limit n) n k e

made : Option KmerSize → ℕ
made (Some k) = k.0
made None = 0

made-value : (b : Bool) (n : ℕ) (k : KmerSize) → cond {A = Option KmerSize} b None (Some record { 0 = n }) ≡ Some k → k.0 ≡ n
unfolding made
made-value true n k e = let z : ◌≡◌ {A = ℕ} 0 1 = cc in absurd (omega arith)
made-value false n k e = sym (ap made e)

pub made-is : (n : ℕ) {k : KmerSize} → size_of n ≡ Some k → k.0 ≡ n
unfolding size_of
made-is n {k} e = made-value (k_past_limit n) n k e
