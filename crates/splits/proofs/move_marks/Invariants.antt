-- What each turn of the loop keeps.
use Rattle.splits.proofs.MarkLaws.{MovingMarks}
use Rattle.splits.proofs.move_marks.Given as goal

abbrev pub invariant-loop-v : goal.invariant-loop-v
invariant-loop-v l = MovingMarks l.initial.tried l.n l.map l.tried l.j l.v
