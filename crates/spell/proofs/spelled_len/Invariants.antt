-- What each turn of the loop keeps.
use Rattle.spell.proofs.SpellLaws.{AddingNodes}
use Rattle.spell.proofs.spelled_len.Given as goal

abbrev pub invariant-loop-v : goal.invariant-loop-v
invariant-loop-v l = AddingNodes l.vs l.nodes l.c l.len l.v-index
