-- `orphans::is_orphan` meets its contract.
use mathlib.Core.Path.{sym, ◌∙◌}
use borrow.Author.Tests.{eqb-true, eqb-false, ne_eqb}
use Rattle.laws.proofs.ListLaws.{clash}
use Rattle.orphans.proofs.OrphanLaws.{orphan-as, orphan-entered, orphan-left, orphan-by-source}
use Rattle.orphans.proofs.is_orphan.Goals.{then-degree-eq0, else-degree-eq0}
use Rattle.orphans.proofs.is_orphan.Goals as goal

pub returns-then-degree-eq0-2 : goal.returns-then-degree-eq0-2
returns-then-degree-eq0-2 c = elim c.if-degree-eq0.branch [
  | then-degree-eq0 w ↦
      orphan-by-source c.args.m c.args.n c.args.es.now c.args.v c.degree.ensures w.if-degree-eq0.true w.degree-then-degree-eq0.ensures
      (eqb-true _ _ (sym w.value-is ∙ c.if-degree-eq0-2.true))
      c.is_ref_source.ensures
  | else-degree-eq0 w ↦ clash c.if-degree-eq0-2.true (w.value-is ∙ ne_eqb _ _ w.if-degree-eq0.false)
]

pub returns-else-degree-eq0-2 : goal.returns-else-degree-eq0-2
returns-else-degree-eq0-2 c = orphan-as (sym c.if-degree-eq0-2.false) (elim c.if-degree-eq0.branch [
  | then-degree-eq0 w ↦
      orphan-left c.args.m c.args.n c.args.es.now c.args.v w.degree-then-degree-eq0.ensures
      (eqb-false _ _ (sym w.value-is ∙ c.if-degree-eq0-2.false))
  | else-degree-eq0 w ↦
      orphan-entered c.args.m c.args.n c.args.es.now c.args.v c.degree.ensures w.if-degree-eq0.false
])
