-- What each turn of the loop keeps.
use Rattle.zip_linear_chains.proofs.LoopLaws.{MovingAll}
use Rattle.zip_linear_chains.proofs.move_all_edges.Given as goal

abbrev pub invariant-loop-e : goal.invariant-loop-e
invariant-loop-e l = MovingAll l.m l.initial.es l.froms l.e l.es
