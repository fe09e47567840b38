-- What each turn of the loop keeps.
use native.Mathlib.Omega.{arith}
use Prim.Native.Nat.{◌-◌}
use Rattle.compact.proofs.LoopLaws.{Numbering, numbering_start, numbering-stays, numbering-goes, numbering-end}
use Rattle.compact.proofs.number.Given as goal

abbrev pub invariant-loop-v : goal.invariant-loop-v
invariant-loop-v l = Numbering l.n l.initial.map l.map l.v l.j
