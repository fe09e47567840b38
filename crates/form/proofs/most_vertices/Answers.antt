-- `form::most_vertices` meets its contract.
use borrow.Author.Rules.{rules}
use native.Mathlib.Omega.{arith}
use Rattle.form.proofs.FormLaws.{most-vertices-1, most-vertices-2}
use Rattle.form.proofs.most_vertices.Goals as goal

pub returns-in-Sgr1 : goal.returns-in-Sgr1
returns-in-Sgr1 c = omega (arith, most-vertices-1 _ c.in-Sgr1.is)

pub returns-in-Sgr2 : goal.returns-in-Sgr2
returns-in-Sgr2 c = omega (arith, most-vertices-2 _ c.in-Sgr2.is)
