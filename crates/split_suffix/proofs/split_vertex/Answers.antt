-- `split_suffix::split_vertex` meets its contract.
use Rattle.split_suffix.proofs.VertexLoops.{cuts-one, cuts-two}
use Rattle.split_suffix.proofs.split_vertex.Goals as goal

pub returns-then-len-s : goal.returns-then-len-s
returns-then-len-s c =
    cuts-one c.requires c.vertex_len-len.ensures c.put_vertex.ensures c.if-len-s.true

pub returns : goal.returns
returns c =
    cuts-two
    c.requires
    c.vertex_len-len.ensures
    c.put_vertex.ensures
    c.vertex_start-start.ensures
    c.if-len-s.false
    c.put_vertex-2.ensures
