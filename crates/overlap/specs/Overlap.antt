-- A record whose layout is that of a k-mer graph. Assumes nothing.
use Rattle.std.specs.Prelude.{◌≡◌, List, ℕ}
use Rattle.defs.specs.Record.{kind_of, k_of}
use Rattle.record.specs.Layout.{WellFormed}
use Rattle.kmer.specs.declared.KmerSize.{KmerSize}

-- none of the causes 1 to 5 is there, the kind is 0, and k is the record's
pub record KmerRecord (bs : List ℕ) (k : KmerSize) : Type 0 where
  pub formed : WellFormed bs
  pub kind : kind_of bs ≡ 0
  pub size : k.0 ≡ k_of bs
