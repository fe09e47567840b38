-- What each turn of the loop keeps.
use native.Mathlib.Omega.{arith}
use mathlib.Core.Path.{refl}
use Prim.Native.Nat.{◌-◌}
use lib.ListN.{length-set}
use Rattle.index.proofs.IndexLaws.{Building, building-start, indexable-kept, building-more, building-end}
use Rattle.index.proofs.build_index.Given as goal

abbrev pub invariant-loop-e : goal.invariant-loop-e
invariant-loop-e l = Building l.m l.n l.es l.initial.heads l.initial.nexts l.heads l.nexts l.e
