-- `vertex_sequence::check_loaded` meets its contract.
use mathlib.Core.Path.{refl}
use native.Mathlib.Omega.{arith}
use Rattle.vertex_sequence.proofs.VertexLaws.{loaded-long, loaded-indexable, loaded-checkable, number-late}
use Rattle.vertex_sequence.proofs.check_loaded.Goals as goal

pub build_index-requires : goal.build_index-requires
build_index-requires c =
    loaded-indexable c.requires

pub bounds-rec-4 : goal.bounds-rec-4
bounds-rec-4 c = omega (arith, loaded-long c.requires)

pub check_graph-requires : goal.check_graph-requires
check_graph-requires c = loaded-checkable c.requires c.build_index.ensures

pub returns : goal.returns
returns c = number-late c.requires refl c.check_graph.ensures
