-- `split_and_update::push_mid_edges` meets its contract.
use native.Mathlib.Omega.{arith}
use Rattle.split_and_update.proofs.NodeLaws.{node_counts}
use Rattle.split_and_update.proofs.LoopLaws.{pushing-start, pushing-room, pushing-skip, pushing-more}
use Rattle.split_and_update.proofs.push_mid_edges.Goals as goal
use Rattle.split_and_update.proofs.push_mid_edges.Goals.{then-cut-vertex_len, else-cut-vertex_len}

pub loop-i-init : goal.loop-i-init
loop-i-init c = (omega arith, pushing-start _ _ _ _ _ _ _ _ _ _)

pub put_mid_edge-requires : goal.put_mid_edge-requires
put_mid_edge-requires c =
    pushing-room
    c.loop-i.invariant.1
    (omega arith)
    c.vertex_len.ensures
    c.if-cut-vertex_len.true
    c.requires.c_in_bounds

pub overflow_add-at : goal.overflow_add-at
overflow_add-at c =
    omega (
      arith,
      pushing-room c.loop-i.invariant.1 (omega arith) c.vertex_len.ensures
          c.if-cut-vertex_len.true c.requires.c_in_bounds,
    )

pub overflow_add-j : goal.overflow_add-j
overflow_add-j c =
    omega (
      arith,
      c.loop-i.invariant.1.number,
      c.requires.off_bound.1.1.0,
      node_counts c.args.vs.now c.args.nodes.now c.args.cut c.loop-i.i,
    )

pub loop-i-preserved : goal.loop-i-preserved
loop-i-preserved c = elim c.if-cut-vertex_len.branch [
  | then-cut-vertex_len w ↦ (
    omega arith,
    rw (w.es-is, w.at-is, w.j-is) (pushing-more c.loop-i.invariant.1 w.end_data-d.result c.requires.off_bound.0 c.requires.off_bound.1.0
        c.vertex_len.ensures w.if-cut-vertex_len.true (c.requires.off_bound.1.1.1.entered c.loop-i.i (omega arith))
        (pushing-room c.loop-i.invariant.1 (omega arith) c.vertex_len.ensures w.if-cut-vertex_len.true c.requires.c_in_bounds)
        w.end_data-d.ensures w.put_mid_edge.ensures),
  )
  | else-cut-vertex_len w ↦ (
    omega arith,
    rw (w.es-is, w.at-is, w.j-is) (pushing-skip c.loop-i.invariant.1 c.vertex_len.ensures w.if-cut-vertex_len.false),
  )
]
