-- What each turn of the loop keeps.
use Rattle.rounds.proofs.RoundLaws.{Rounding}
use Rattle.rounds.proofs.simplify_rounds.Given as goal

abbrev pub invariant-loop-n : goal.invariant-loop-n
invariant-loop-n l =
    Rounding l.least l.initial.w l.initial.es l.initial.vs l.initial.p l.initial.heads l.initial.sig l.w l.es l.vs l.p l.heads l.nexts l.nodes l.map l.sig l.n l.old
