-- What each turn of the loop keeps.
use Rattle.merge_linear_chain.proofs.WriteLaws.{Writing}
use Rattle.merge_linear_chain.proofs.write_chain.Given as goal

abbrev pub invariant-loop-v : goal.invariant-loop-v
invariant-loop-v l = Writing l.vs l.initial.p l.used l.start l.nodes l.c l.p l.at l.v-index
