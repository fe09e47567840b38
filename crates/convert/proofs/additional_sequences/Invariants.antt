-- What each turn of the loop keeps.
use Rattle.convert.proofs.TrimLaws.{Trimming}
use Rattle.convert.proofs.additional_sequences.Given as goal

abbrev pub invariant-loop-v : goal.invariant-loop-v
invariant-loop-v l = Trimming l.m l.n l.es l.initial.vs l.vs l.v
