-- What each turn of the loop keeps.
use Rattle.orphans.proofs.OrphanLaws.{MarkingOrphans}
use Rattle.orphans.proofs.mark_orphans.Given as goal

abbrev pub invariant-loop-v : goal.invariant-loop-v
invariant-loop-v l = MarkingOrphans l.m l.n l.es l.initial.map l.map l.v
