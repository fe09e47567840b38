-- `form::bytes_at` meets its contract.
use native.Mathlib.Omega.{arith}
use mathlib.Core.Path.{sym}
use Rattle.form.proofs.FormLaws.{bytes-1, bytes_2}
use borrow.Author.Rules.{rules}
use Rattle.form.proofs.bytes_at.Goals as goal

pub returns-in-Sgr1 : goal.returns-in-Sgr1
returns-in-Sgr1 c = sym (bytes-1 _ c.in-Sgr1.is _ _)

pub returns-in-Sgr2 : goal.returns-in-Sgr2
returns-in-Sgr2 c = sym (bytes_2 _ c.in-Sgr2.is _ _)
