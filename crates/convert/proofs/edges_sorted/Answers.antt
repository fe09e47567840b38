-- `convert::edges_sorted` meets its contract.
use Rattle.convert.proofs.CopyLaws.{edges-sortable, edges-done}
use Rattle.convert.proofs.edges_sorted.Goals as goal

pub edge_order-requires : goal.edge_order-requires
edge_order-requires c =
    edges-sortable c.requires c.put_places.auto.place

pub returns : goal.returns
returns c =
    edges-done
    c.requires
    c.put_places.ensures
    c.edge_order.ensures
    c.copy_edges.ensures
