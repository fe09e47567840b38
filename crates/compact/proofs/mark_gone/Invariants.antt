-- What each turn of the loop keeps.
use mathlib.Core.Path.{refl}
use native.Mathlib.Omega.{arith}
use Prim.Native.Nat.{◌-◌}
use Rattle.compact.proofs.LoopLaws.{MarkingGone, marking-start, marking-more, marking-end}
use Rattle.compact.proofs.mark_gone.Given as goal

abbrev pub invariant-loop-i : goal.invariant-loop-i
invariant-loop-i l = MarkingGone l.n l.g l.gone l.initial.map l.map l.i
