-- `read_kmers::read_overlapping_kmer_graph` meets its contract.
use Rattle.std.proofs.lemmas.Result.{err_from_is_err_and}
use Rattle.read_kmers.proofs.KmerLaws.{
  overlapping-refused,
  kmer-record,
  cycle-checkable,
  read-15,
  read-7,
  read_whole,
}
use borrow.Author.Rules.{rules}
use Rattle.read_kmers.proofs.read_overlapping_kmer_graph.Goals as goal

pub returns-in_err-held : goal.returns-in_err-held
returns-in_err-held c =
    let p = err_from_is_err_and c.from_residual.result c.from_residual.ensures.1 in
    rw (p.1, p.2) (overlapping-refused c.read_kmer_graph.ensures c.in_err-held.was)

pub edge_without_overlap-requires : goal.edge_without_overlap-requires
edge_without_overlap-requires c =
    kmer-record c.read_kmer_graph.ensures c.in_ok-held.was

pub returns-then-edge_without_overlap : goal.returns-then-edge_without_overlap
returns-then-edge_without_overlap c =
    read-15
    c.read_kmer_graph.ensures
    c.in_ok-held.was
    c.edge_without_overlap.ensures
    c.if-edge_without_overlap.true

pub has_cycle-requires : goal.has_cycle-requires
has_cycle-requires c =
    cycle-checkable
    c.read_kmer_graph.ensures
    c.in_ok-held.was
    c.requires
    c.read_kmer_graph.auto.scratch

pub returns-then-has_cycle : goal.returns-then-has_cycle
returns-then-has_cycle c =
    read-7
    c.read_kmer_graph.ensures
    c.in_ok-held.was
    c.edge_without_overlap.ensures
    c.if-edge_without_overlap.false
    c.has_cycle.ensures
    c.if-has_cycle.true

pub returns : goal.returns
returns c =
    read_whole
    c.read_kmer_graph.ensures
    c.in_ok-held.was
    c.edge_without_overlap.ensures
    c.if-edge_without_overlap.false
    c.has_cycle.ensures
    c.if-has_cycle.false
