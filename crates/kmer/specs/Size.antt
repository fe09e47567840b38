-- What makes a k-mer size.
-- Assumes nothing.
use Rattle.std.specs.Prelude.{ℕ, Bool, ◌||◌, cond, ltb, Option, Some, None}
use Rattle.kmer.specs.declared.KmerSize.{KmerSize}

-- k below 2 or above 128
unfoldable pub k_past_limit : ℕ → Bool
k_past_limit n = ltb n 2 || ltb 128 n

-- the size where n is within its limit; else none, which is refusal 3 of a record
unfoldable pub size_of : ℕ → Option KmerSize
size_of n = cond (k_past_limit n) None (Some record { 0 = n })
