-- `load::load_edges` meets its contract.
use native.Mathlib.Omega.{arith}
use Prim.Native.Nat.{◌-◌}
use Rattle.load.proofs.LoadLaws.{ReadingEdges, record-edge-inside, edges-start, edges_more, edges-end}
use Rattle.load.proofs.load_edges.Goals as goal

pub edge_from_at-from-requires : goal.edge_from_at-from-requires
edge_from_at-from-requires c = record-edge-inside c.requires.0 c.requires.1.0 _ (omega arith)

pub edge_to_at-to-requires : goal.edge_to_at-to-requires
edge_to_at-to-requires c = record-edge-inside c.requires.0 c.requires.1.0 _ (omega arith)

pub edge_support_at-support-requires : goal.edge_support_at-support-requires
edge_support_at-support-requires c = record-edge-inside c.requires.0 c.requires.1.0 _ (omega arith)

pub edge_flag_at-requires : goal.edge_flag_at-requires
edge_flag_at-requires c = record-edge-inside c.requires.0 c.requires.1.0 _ (omega arith)

pub loop-i-preserved : goal.loop-i-preserved
loop-i-preserved c =
    edges_more
    c.loop-i.invariant
    (omega arith)
    (omega arith)
    c.edge_from_at-from.ensures
    c.edge_to_at-to.ensures
    c.edge_support_at-support.ensures
    c.edge_flag_at.ensures
    c.put_edge.ensures
