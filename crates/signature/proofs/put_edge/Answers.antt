-- `signature::put_edge` meets its contract.
use Rattle.signature.proofs.SignLaws.{edge-over}
use Rattle.signature.proofs.put_edge.Goals as goal

pub returns : goal.returns
returns c =
    edge-over
    c.args.es.now
    c.args.i
    c.edge_from-from.ensures
    c.end_and_flag-end.ensures
    c.edge_support-support.ensures
    c.put-a.ensures
    c.put-b.ensures
    c.put.ensures
