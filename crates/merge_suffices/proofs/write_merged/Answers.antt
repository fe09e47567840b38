-- `merge_suffices::write_merged` meets its contract.
use Rattle.merge_suffices.proofs.WriteLaws.{written}
use Rattle.merge_suffices.proofs.write_merged.Goals as goal

pub returns : goal.returns
returns c =
    written
    c.requires
    c.vertex_start-a.ensures
    c.vertex_start-b.ensures
    c.vertex_len-x.ensures
    c.vertex_len-y.ensures
    c.copy_within.ensures
    c.copy_within.auto.p
    c.copy_within-2.ensures
    c.copy_within-2.auto.p
