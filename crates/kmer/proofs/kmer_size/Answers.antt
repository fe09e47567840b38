-- `kmer::kmer_size` meets its contract.
use borrow.Author.Tests.{lt-ltb, le-ltb}
use Rattle.kmer.specs.Size.{size_of, k_past_limit}
use Rattle.kmer.proofs.kmer_size.Goals.{
  then-n-lt-LEAST_SIZE-via-then-n-lt-LEAST_SIZE,
  then-n-lt-LEAST_SIZE-via-else-n-lt-LEAST_SIZE+then-n-gt-MOST_SIZE,
}
use Rattle.kmer.proofs.kmer_size.Goals as goal

pub returns-then-n-lt-LEAST_SIZE : goal.returns-then-n-lt-LEAST_SIZE
unfolding size_of k_past_limit
returns-then-n-lt-LEAST_SIZE c = elim c.then-n-lt-LEAST_SIZE.branch [
  | then-n-lt-LEAST_SIZE-via-then-n-lt-LEAST_SIZE w ↦ simp (lt-ltb _ _ w.if-n-lt-LEAST_SIZE.true)
  | then-n-lt-LEAST_SIZE-via-else-n-lt-LEAST_SIZE+then-n-gt-MOST_SIZE w ↦
      simp (le-ltb _ _ w.if-n-lt-LEAST_SIZE.false, lt-ltb _ _ w.if-n-gt-MOST_SIZE.true)
]

pub returns : goal.returns
unfolding size_of k_past_limit
returns c = simp (le-ltb _ _ c.if-n-lt-LEAST_SIZE.false, le-ltb _ _ c.if-n-gt-MOST_SIZE.false)
