-- `split_and_update::mids_ref` meets its contract.
use native.Mathlib.Omega.{arith}
use mathlib.Core.Path.{refl, ◌∙◌}
use Rattle.split_and_update.proofs.LoopLaws.{ref-start, ref-more, ref-skip}
use Rattle.split_and_update.proofs.mids_ref.Goals as goal
use Rattle.split_and_update.proofs.mids_ref.Goals.{then-cut-vertex_len, else-cut-vertex_len}

pub loop-i-init : goal.loop-i-init
loop-i-init c = (
  omega arith,
  ref-start c.args.m c.args.es.now c.args.vs.now c.args.heads.now
      c.args.nodes.now c.args.cut c.args.off,
)

pub loop-i-preserved : goal.loop-i-preserved
loop-i-preserved c = elim c.if-cut-vertex_len.branch [
  | then-cut-vertex_len w ↦ (
    omega arith,
    w.any-is
        ∙ ref-more c.args.m c.args.es.now c.args.vs.now c.args.heads.now c.args.nodes.now c.args.cut c.loop-i.i c.args.off c.loop-i.any
        w.end_data-d.result c.requires.0 c.loop-i.invariant.1 c.vertex_len.ensures w.if-cut-vertex_len.true w.end_data-d.ensures w.flag_is_ref-any.ensures refl,
  )
  | else-cut-vertex_len w ↦ (
    omega arith,
    w.any-is
        ∙ ref-skip c.args.m c.args.es.now c.args.vs.now c.args.heads.now c.args.nodes.now c.args.cut c.loop-i.i c.args.off c.loop-i.any
        c.loop-i.invariant.1 c.vertex_len.ensures w.if-cut-vertex_len.false,
  )
]
