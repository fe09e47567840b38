-- What each turn of the loop keeps.
use Rattle.connected.proofs.ConnectedLaws.{Missing}
use Rattle.connected.proofs.mark_missed.Given as goal

abbrev pub invariant-loop-v : goal.invariant-loop-v
invariant-loop-v l = Missing l.n l.marks l.initial.map l.map l.v
