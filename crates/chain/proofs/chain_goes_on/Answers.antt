-- `chain::chain_goes_on` meets its contract.
use mathlib.Core.Path.{refl, sym, ap, ◌∙◌}
use mathlib.Core.Bool.{not}
use borrow.Author.Tests.{eq-eqb, eqb-true, not-false}
use Rattle.chain.proofs.ChainLaws.{goes-no₁, goes-no₂, goes-no₃, goes_by}
use Rattle.chain.proofs.chain_goes_on.Goals as goal
use Rattle.chain.proofs.chain_goes_on.Goals.{then-has_one, else-has_one, then-has_one-2, else-has_one-2}

pub returns-then-last-next : goal.returns-then-last-next
returns-then-last-next c = elim c.if-has_one-2.branch [
  | then-has_one-2 v ↦ elim c.if-has_one.branch [
    | then-has_one w ↦ goes_by _ _ _ _ _
        (sym w.if-has_one.true ∙ c.has_one.ensures)
        (sym v.if-has_one-2.true ∙ w.value-is ∙ w.has_one-then-has_one.ensures)
        (λ q. cc (ap not (eq-eqb _ _ q)))
        c.is_reference_node.ensures
        c.is_reference_node-then-last-next.ensures
        refl
    | else-has_one w ↦ absurd cc
  ]
  | else-has_one-2 v ↦ absurd cc
]

pub returns-else-last-next : goal.returns-else-last-next
returns-else-last-next c = rw c.if-last-next.false (elim c.if-has_one.branch [
  | then-has_one w ↦ elim c.if-has_one-2.branch [
    | then-has_one-2 v ↦ goes-no₃ _ _ _ _ _
        (sym w.if-has_one.true ∙ c.has_one.ensures)
        (sym v.if-has_one-2.true ∙ w.value-is ∙ w.has_one-then-has_one.ensures)
        (eqb-true _ _ (not-false _ (sym v.value-is ∙ c.if-last-next.false)))
    | else-has_one-2 v ↦ goes-no₂ _ _ _ _ _
        (sym w.if-has_one.true ∙ c.has_one.ensures)
        (sym v.if-has_one-2.false ∙ w.value-is ∙ w.has_one-then-has_one.ensures)
  ]
  | else-has_one w ↦ goes-no₁ _ _ _ _ _ (sym w.if-has_one.false ∙ c.has_one.ensures)
])
