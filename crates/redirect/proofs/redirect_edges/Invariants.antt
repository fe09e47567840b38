-- What each turn of the loop keeps.
use Prim.Native.Nat.{◌-◌}
use Rattle.redirect.proofs.RedirectLaws.{Redirecting}
use Rattle.redirect.proofs.redirect_edges.Given as goal

abbrev pub invariant-loop-e : goal.invariant-loop-e
invariant-loop-e l = Redirecting l.off l.y l.n l.lo l.old l.m l.initial.es l.initial.map l.v l.k l.es l.map l.e

abbrev pub decreases-loop-e : goal.decreases-loop-e
decreases-loop-e l = l.old - l.e
