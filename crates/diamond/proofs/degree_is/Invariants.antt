-- What each turn of the loop keeps.
use Prim.Native.Nat.{◌-◌}
use Rattle.index.specs.Index.{edge_end}
use Rattle.index.proofs.AdjLaws.{ListWalked}
use Rattle.diamond.proofs.degree_is.Given as goal

abbrev pub invariant-loop-e : goal.invariant-loop-e
invariant-loop-e l = ListWalked (edge_end l.off l.es) l.m l.v l.d l.e

abbrev pub decreases-loop-e : goal.decreases-loop-e
decreases-loop-e l = l.m - l.e
