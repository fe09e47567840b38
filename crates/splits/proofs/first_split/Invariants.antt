-- What each turn of the loop keeps.
use Rattle.splits.proofs.SplitLaws.{Splitting}
use Rattle.splits.proofs.first_split.Given as goal

abbrev pub invariant-loop-v : goal.invariant-loop-v
invariant-loop-v l =
    Splitting l.held l.initial.es l.initial.vs l.p l.initial.nodes l.initial.map l.initial.tried l.es l.vs l.nodes l.map l.tried l.v
