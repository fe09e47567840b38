-- `form::edges_at` meets its contract.
use native.Mathlib.Omega.{arith}
use mathlib.Core.Path.{sym}
use Rattle.form.proofs.FormLaws.{edges-1, edges-2}
use borrow.Author.Rules.{rules}
use Rattle.form.proofs.edges_at.Goals as goal

pub returns-in-Sgr1 : goal.returns-in-Sgr1
returns-in-Sgr1 c = sym (edges-1 _ c.in-Sgr1.is _)

pub returns-in-Sgr2 : goal.returns-in-Sgr2
returns-in-Sgr2 c = sym (edges-2 _ c.in-Sgr2.is _)
