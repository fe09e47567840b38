-- `orphans::mark_orphans` meets its contract.
use Rattle.orphans.proofs.OrphanLaws.{marking-more}
use Rattle.orphans.proofs.mark_orphans.Goals as goal

pub loop-v-preserved : goal.loop-v-preserved
loop-v-preserved c = marking-more c.from.result c.loop-v.invariant c.loop-v-test.true c.requires.0 c.is_orphan.ensures c.from.ensures
