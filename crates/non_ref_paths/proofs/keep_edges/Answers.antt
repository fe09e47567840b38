-- `non_ref_paths::keep_edges` meets its contract.
use native.Mathlib.Omega.{arith}
use mathlib.Core.Path.{sym, ◌∙◌}
use Rattle.non_ref_paths.proofs.EdgeKeeping.{keeping_start, keeping-below, keeping-keep, keeping-drop, keeping-end}
use Rattle.non_ref_paths.proofs.keep_edges.Goals.{then-edge_stays, else-edge_stays}
use Rattle.non_ref_paths.proofs.keep_edges.Goals as goal

pub loop-e-init : goal.loop-e-init
loop-e-init c = keeping_start

pub edge_stays-requires : goal.edge_stays-requires
edge_stays-requires c = (
  omega (arith, c.loop-e.invariant.len, c.requires.0, c.loop-e-test.true),
  (
    c.requires.1.0,
    (
      keeping-below c.loop-e.invariant c.loop-e-test.true c.requires.1.0 c.requires.1.1.0,
      c.requires.1.1.1,
    ),
  ),
)

pub loop-e-preserved : goal.loop-e-preserved
loop-e-preserved c = elim c.if-edge_stays.branch [
  | then-edge_stays w ↦
      rw (w.es-is, w.j-is)
      (keeping-keep
      c.loop-e.invariant
      c.loop-e-test.true
      c.requires.0
      (sym c.edge_stays.ensures ∙ w.if-edge_stays.true)
      w.edge_from-a.ensures
      w.edge_to-b.ensures
      w.edge_support-s.ensures
      w.edge_flag-f.ensures
      w.put_edge.ensures)
  | else-edge_stays w ↦
      rw (w.es-is, w.j-is)
      (keeping-drop c.loop-e.invariant c.loop-e-test.true (sym c.edge_stays.ensures ∙ w.if-edge_stays.false))
]

pub returns : goal.returns
returns c = keeping-end c.loop-e.invariant (omega arith) c.requires.1.1.0
