-- What each turn of the loop keeps.
use Rattle.pool.proofs.PoolLaws.{Copying, copying-start, copying-more, copying-end}
use Rattle.pool.proofs.copy_within.Given as goal

abbrev pub invariant-loop-i : goal.invariant-loop-i
invariant-loop-i l = Copying l.initial.p l.to l.from l.n l.p l.i
