-- `split_suffix::add_vertices` meets its contract.
use native.Mathlib.Omega.{arith}
use Rattle.split_suffix.proofs.VertexLoops.{stacking-start, stacking-cut, stacking-more}
use Rattle.split_suffix.proofs.add_vertices.Goals as goal

pub loop-i-init : goal.loop-i-init
loop-i-init c = stacking-start c.requires

pub split_vertex-k-requires : goal.split_vertex-k-requires
split_vertex-k-requires c =
    stacking-cut c.requires c.loop-i.invariant (omega arith)

pub loop-i-preserved : goal.loop-i-preserved
loop-i-preserved c =
    stacking-more
    c.requires
    c.loop-i.invariant
    (omega arith)
    c.split_vertex-k.ensures
    c.split_vertex-k.auto.vs
