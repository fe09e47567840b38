-- `split_and_update::prefix_to_suffix` meets its contract.
use native.Mathlib.Omega.{arith}
use mathlib.Core.Path.{◌∙◌, ap}
use Rattle.edge_data.specs.EdgeData.{carried_data}
use Rattle.split_and_update.proofs.LoopLaws.{direct-start, direct-more, direct-skip}
use Rattle.split_and_update.proofs.prefix_to_suffix.Goals as goal
use Rattle.split_and_update.proofs.prefix_to_suffix.Goals.{then-vertex_len-cut, else-vertex_len-cut}

pub loop-i-init : goal.loop-i-init
loop-i-init c = (
  omega arith,
  direct-start c.args.m c.args.es.now c.args.vs.now c.args.heads.now
      c.args.nodes.now c.args.cut,
)

pub loop-i-preserved : goal.loop-i-preserved
loop-i-preserved c = elim c.if-vertex_len-cut.branch [
  | then-vertex_len-cut w ↦ (
    omega arith,
    ap carried_data w.all-is
        ∙ direct-more c.args.m c.args.es.now c.args.vs.now c.args.heads.now c.args.nodes.now c.args.cut c.loop-i.i c.loop-i.all w.end_data-into.result
        w.end_data-out.result w.joined.result w.joined-all.result c.loop-i.invariant.1 c.vertex_len.ensures w.if-vertex_len-cut.true
        w.end_data-into.ensures w.end_data-out.ensures w.joined.ensures w.joined-all.ensures,
  )
  | else-vertex_len-cut w ↦ (
    omega arith,
    ap carried_data w.all-is
        ∙ direct-skip c.args.m c.args.es.now c.args.vs.now c.args.heads.now c.args.nodes.now c.args.cut c.loop-i.i c.loop-i.invariant.1
        c.vertex_len.ensures w.if-vertex_len-cut.false,
  )
]
