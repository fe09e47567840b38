-- What each turn of the loop keeps.
use Rattle.zip_linear_chains.proofs.LoopLaws.{Owning}
use Rattle.zip_linear_chains.proofs.own_froms.Given as goal

abbrev pub invariant-loop-v : goal.invariant-loop-v
invariant-loop-v l = Owning l.n l.v l.initial.froms l.froms
