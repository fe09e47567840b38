-- What each turn of the loop keeps.
use Rattle.zip_linear_chains.proofs.AllAbsorbedLaws.{Absorbing}
use Rattle.zip_linear_chains.proofs.absorb_chains.Given as goal

abbrev pub invariant-loop-v : goal.invariant-loop-v
invariant-loop-v l =
    Absorbing l.held l.es l.initial.vs l.initial.p l.heads l.initial.nodes l.initial.rest l.initial.froms l.v l.all l.vs l.p l.nodes l.rest l.froms
