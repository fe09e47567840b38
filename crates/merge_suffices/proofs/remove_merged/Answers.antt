-- `merge_suffices::remove_merged` meets its contract.
use native.Mathlib.Omega.{arith}
use Rattle.compact.proofs.CompactLaws.{removed}
use Rattle.merge_suffices.proofs.WriteLaws.{marked_more}
use Rattle.merge_suffices.proofs.remove_merged.Goals as goal

pub returns : goal.returns
returns c =
    removed
    c.requires.0
    (marked_more _ (omega (arith, c.requires.1.1, c.requires.0.mp-room, c.mark_gone.auto.map))
    c.mark_gone.ensures)
    c.compact_vertices.ensures
