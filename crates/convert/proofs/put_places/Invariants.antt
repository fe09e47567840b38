-- What each turn of the loop keeps.
use Rattle.convert.proofs.CopyLaws.{Placing}
use Rattle.convert.proofs.put_places.Given as goal

abbrev pub invariant-loop-i : goal.invariant-loop-i
invariant-loop-i l = Placing l.n l.order l.initial.place l.place l.i
