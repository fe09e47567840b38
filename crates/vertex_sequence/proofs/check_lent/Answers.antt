-- `vertex_sequence::check_lent` meets its contract.
use mathlib.Core.Path.{refl}
use Rattle.arrays.proofs.SizedLaws.{room-to-mark-kept}
use Rattle.vertex_sequence.proofs.VertexLaws.{number-early, number-loadable, loaded-to-check}
use Rattle.std.proofs.lemmas.Result.{err_from_is_err_and}
use Rattle.vertex_sequence.proofs.check_lent.Goals as goal

pub returns-in_err-k : goal.returns-in_err-k
returns-in_err-k c =
    let p = err_from_is_err_and c.from_residual.result c.from_residual.ensures.1 in
    rw (p.1, p.2) (number-early _ c.check_layout.ensures c.in_err-k.was)

pub load_graph-held-requires : goal.load_graph-held-requires
load_graph-held-requires c = number-loadable _ c.check_layout.ensures c.in_ok-k.was c.requires

pub check_loaded-requires : goal.check_loaded-requires
check_loaded-requires c =
    let kept = c.load_graph-held.auto in
    loaded-to-check _
    c.check_layout.ensures
    c.in_ok-k.was
    c.load_graph-held.ensures
    (room-to-mark-kept c.requires kept.es kept.vs refl refl refl refl refl)
