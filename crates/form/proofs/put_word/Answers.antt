-- `form::put_word` meets its contract.
use native.Mathlib.Omega.{arith}
use mathlib.Core.Path.{◌∙◌, ap}
use lib.Seq.{sets}
use Rattle.form.proofs.FormLaws.{word-1, word-2, limit-1, written-1, written_2}
use borrow.Author.Rules.{rules}
use Rattle.form.proofs.put_word.Goals as goal

pub overflow_cast-v : goal.overflow_cast-v
overflow_cast-v c = omega (arith, c.requires, limit-1 _ c.in-Sgr1.is)

pub put_u16-requires : goal.put_u16-requires
put_u16-requires c = omega (arith, c.requires, word-1 _ c.in-Sgr1.is)

pub put_u32-requires : goal.put_u32-requires
put_u32-requires c = omega (arith, c.requires, word-2 _ c.in-Sgr2.is)

pub returns-in-Sgr1 : goal.returns-in-Sgr1
returns-in-Sgr1 c =
    c.put_u16.ensures ∙ ap (sets c.args.dst.now c.args.at)
    (written-1 _ c.in-Sgr1.is _)

pub returns-in-Sgr2 : goal.returns-in-Sgr2
returns-in-Sgr2 c =
    c.put_u32.ensures ∙ ap (sets c.args.dst.now c.args.at)
    (written_2 _ c.in-Sgr2.is _)
