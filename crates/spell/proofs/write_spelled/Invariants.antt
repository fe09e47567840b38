-- What each turn of the loop keeps.
use Rattle.spell.proofs.SpellLaws.{Spelling}
use Rattle.spell.proofs.write_spelled.Given as goal

abbrev pub invariant-loop-v : goal.invariant-loop-v
invariant-loop-v l = Spelling l.vs l.p l.nodes l.c l.initial.out l.out l.at l.v-index
