-- `vertex_sequence::is_doubled` meets its contract.
use Rattle.vertex_sequence.proofs.VertexLaws.{kmers-doubled, edges-doubled}
use Rattle.vertex_sequence.proofs.is_doubled.Goals as goal

pub returns-then-kmers : goal.returns-then-kmers
returns-then-kmers c =
    kmers-doubled _ _ _ _ _ c.if-kmers.true c.is_doubled.ensures

pub returns : goal.returns
returns c =
    edges-doubled
    c.args.m
    c.args.n
    c.args.es.now
    c.args.vs.now
    c.args.p.now
    c.if-kmers.false
    c.doubled_edge.ensures
