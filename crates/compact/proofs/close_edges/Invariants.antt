-- What each turn of the loop keeps.
use native.Mathlib.Omega.{arith}
use Prim.Native.Nat.{◌-◌}
use mathlib.Core.Path.{sym, ◌∙◌}
use Rattle.compact.proofs.LoopLaws.{
  ClosingE,
  closing-e-start,
  closing-e-ends,
  closing-e-drop,
  closing-e-keep,
  closing-e-end,
  closing-e-from,
}
use Rattle.compact.proofs.close_edges.Given as goal

abbrev pub invariant-loop-e : goal.invariant-loop-e
invariant-loop-e l = ClosingE l.map l.m l.initial.es l.es l.e l.j
