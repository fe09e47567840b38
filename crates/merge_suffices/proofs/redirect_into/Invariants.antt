-- What each turn of the loop keeps.
use Rattle.merge_suffices.proofs.EdgeLoops.{TakingPredecessors}
use Rattle.merge_suffices.proofs.redirect_into.Given as goal

abbrev pub invariant-loop-i : goal.invariant-loop-i
invariant-loop-i l = TakingPredecessors l.n l.m l.initial.es l.initial.map l.nodes l.c l.k l.es l.map l.i
