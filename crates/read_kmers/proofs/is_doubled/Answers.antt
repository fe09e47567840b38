-- `read_kmers::is_doubled` meets its contract.
use Rattle.sort.proofs.PermutationLaws.{mergeable}
use Rattle.read_kmers.proofs.KmerLaws.{edges-double, kmers-double}
use borrow.Author.Rules.{rules}
use Rattle.read_kmers.proofs.is_doubled.Goals as goal

pub returns-then-doubled_edge : goal.returns-then-doubled_edge
returns-then-doubled_edge c =
    edges-double c.doubled_edge.ensures c.if-doubled_edge.true

pub equal_kmers-requires : goal.equal_kmers-requires
equal_kmers-requires c =
    (mergeable c.kmer_order.ensures.numbers c.requires.1.1.keys, c.kmer_order.ensures)

pub returns : goal.returns
returns c =
    kmers-double
    c.doubled_edge.ensures
    c.if-doubled_edge.false
    c.kmer_order.ensures
    c.equal_kmers.ensures
