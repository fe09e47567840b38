-- What each turn of the loop keeps.
use Prim.Native.Nat.{◌-◌}
use mathlib.Core.Path.{◌≡◌}
use Rattle.defs.specs.Lists.{any_of, up_from}
use Rattle.overlap.proofs.OverlapLaws.{apart}
use Rattle.overlap.proofs.edge_without_overlap.Given as goal

abbrev pub invariant-loop-i : goal.invariant-loop-i
invariant-loop-i l = any_of (apart l.rec) (up_from l.i (l.e - l.i)) ≡ any_of (apart l.rec) (up_from 0 l.e)
