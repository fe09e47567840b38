-- `form::word_at` meets its contract.
use native.Mathlib.Omega.{arith}
use mathlib.Core.Path.{◌∙◌}
use Rattle.form.proofs.FormLaws.{word-1, word-2, read-1, read-2}
use borrow.Author.Rules.{rules}
use Rattle.form.proofs.word_at.Goals as goal

pub u16_at-requires : goal.u16_at-requires
u16_at-requires c = omega (arith, c.requires, word-1 _ c.in-Sgr1.is)

pub u32_at-requires : goal.u32_at-requires
u32_at-requires c = omega (arith, c.requires, word-2 _ c.in-Sgr2.is)

pub returns-in-Sgr1 : goal.returns-in-Sgr1
returns-in-Sgr1 c =
    c.from.ensures ∙ c.u16_at.ensures ∙ read-1 _ c.in-Sgr1.is _ _

pub returns-in-Sgr2 : goal.returns-in-Sgr2
returns-in-Sgr2 c =
    c.u32_at.ensures ∙ read-2 _ c.in-Sgr2.is _ _
