-- What each turn of the loop keeps.
use Rattle.reference.proofs.WalkLaws.{WalkingPath}
use Rattle.reference.proofs.reference_path.Given as goal

abbrev pub invariant-loop-c : goal.invariant-loop-c
invariant-loop-c l = WalkingPath l.m l.n l.es l.source l.sink l.initial.nodes l.nodes l.v l.c
