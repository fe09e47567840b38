-- `signature::put_vertex` meets its contract.
use Rattle.signature.proofs.SignLaws.{vertex-over}
use Rattle.signature.proofs.put_vertex.Goals as goal

pub returns : goal.returns
returns c =
    vertex-over
    c.args.vs.now
    c.args.p.now
    c.args.v
    c.vertex_start-start.ensures
    c.vertex_len-len.ensures
    c.put-t.ensures
    c.requires.1.0
    c.put_bytes.ensures
