-- `diamond::is_diamond` meets its contract.
use mathlib.Core.Path.{sym, ◌∙◌}
use native.Mathlib.Omega.{arith}
use borrow.Author.Tests.{leb-true}
use Rattle.diamond.proofs.TestLaws.{diamond-few, diamond-not, diamond-is}
use Rattle.diamond.proofs.is_diamond.Goals as goal
use Rattle.diamond.proofs.is_diamond.Goals.{then-c-ge2, else-c-ge2}

pub returns-then-all_middles : goal.returns-then-all_middles
returns-then-all_middles c = elim c.if-c-ge2.branch [
  | then-c-ge2 w ↦ diamond-is w.if-c-ge2.true (sym w.all_middles.ensures ∙ sym w.value-is ∙ c.if-all_middles.true) c.degree_is.ensures
  | else-c-ge2 w ↦ absurd (omega (arith, leb-true 2 c.args.c (sym w.value-is ∙ c.if-all_middles.true)))
]

pub returns-else-all_middles : goal.returns-else-all_middles
returns-else-all_middles c = rw c.if-all_middles.false (elim c.if-c-ge2.branch [
  | then-c-ge2 w ↦ diamond-not w.if-c-ge2.true (sym w.all_middles.ensures ∙ sym w.value-is ∙ c.if-all_middles.false)
  | else-c-ge2 w ↦ diamond-few (omega arith)
])
