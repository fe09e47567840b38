-- `orphans::remove_singleton_orphan_vertices` meets its contract.
use Rattle.orphans.proofs.OrphanLaws.{reduced-as, marked-orphans}
use Rattle.orphans.proofs.remove_singleton_orphan_vertices.Goals as goal

pub returns : goal.returns
returns c =
    reduced-as
    (marked-orphans c.args.held c.args.vs.now c.requires.0.ends
    c.mark_orphans.ensures)
    c.remove_marked.ensures
