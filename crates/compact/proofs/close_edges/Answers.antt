-- `compact::close_edges` meets its contract.
use native.Mathlib.Omega.{arith}
use Prim.Native.Nat.{◌-◌}
use mathlib.Core.Path.{sym, ◌∙◌}
use Rattle.compact.proofs.LoopLaws.{
  ClosingE,
  closing-e-start,
  closing-e-ends,
  closing-e-drop,
  closing-e-keep,
  closing-e-end,
  closing-e-from,
}
use Rattle.compact.proofs.close_edges.Goals.{then-both_set, else-both_set}
use Rattle.compact.proofs.close_edges.Goals as goal

pub loop-e-init : goal.loop-e-init
loop-e-init c = closing-e-start

pub loop-e-preserved : goal.loop-e-preserved
loop-e-preserved c =
    elim c.if-both_set.branch [
      | then-both_set w ↦
          rw (w.es-is, w.j-is)
          (closing-e-keep
          c.loop-e.invariant
          c.loop-e-test.true
          c.edge_from.ensures
          c.edge_to.ensures
          c.requires.0
          c.requires.1.0
          c.requires.1.1
          (sym c.both_set.ensures.is ∙ w.if-both_set.true)
          w.edge_support-s.ensures
          w.edge_flag-f.ensures
          w.put_edge.ensures)
      | else-both_set w ↦
          rw (w.es-is, w.j-is)
          (closing-e-drop
          c.loop-e.invariant
          c.loop-e-test.true
          c.edge_from.ensures
          c.edge_to.ensures
          (sym c.both_set.ensures.is ∙ w.if-both_set.false))
    ]
