-- `form::lengths_at` meets its contract.
use borrow.Author.Rules.{rules}
use native.Mathlib.Omega.{arith}
use Rattle.form.proofs.FormLaws.{lengths-1, lengths-2}
use Rattle.form.proofs.lengths_at.Goals as goal

pub returns-in-Sgr1 : goal.returns-in-Sgr1
returns-in-Sgr1 c = omega (arith, lengths-1 _ c.in-Sgr1.is)

pub returns-in-Sgr2 : goal.returns-in-Sgr2
returns-in-Sgr2 c = omega (arith, lengths-2 _ c.in-Sgr2.is)
