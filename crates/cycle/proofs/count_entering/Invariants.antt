-- What each turn of the loop keeps.
use native.Mathlib.Omega.{arith}
use Prim.Native.Nat.{◌-◌}
use Rattle.index.specs.Index.{edge_end}
use Rattle.cycle.proofs.PeelLaws.{Counting, counting-start, counting_more, counting-end, degree-most}
use Rattle.cycle.proofs.count_entering.Given as goal

abbrev pub invariant-loop-v : goal.invariant-loop-v
invariant-loop-v l = Counting l.m l.n l.es l.initial.degrees l.degrees l.v
