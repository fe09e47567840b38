-- `record::byte_count` meets its contract.
use native.Mathlib.Omega.{arith}
use mathlib.Core.Path.{◌∙◌}
use Rattle.record.proofs.Fields.{header-inside, words_inside, header-same, bytes_read}
use Rattle.form.specs.Coded.{form_is}
use Rattle.form.proofs.FormLaws.{sizes}
use borrow.Author.Rules.{rules}
use Rattle.record.proofs.byte_count.Goals as goal

pub overflow_sub-lengths_at : goal.overflow_sub-lengths_at
overflow_sub-lengths_at c = omega (arith, c.lengths_at.ensures, (sizes (form_is c.args.form)).header-least)

pub u32_at-requires : goal.u32_at-requires
u32_at-requires c =
    omega (arith, header-inside c.requires, c.lengths_at.ensures, (sizes (form_is c.args.form)).header-least)

pub returns : goal.returns
returns c = (c.u32_at.ensures ∙ bytes_read _ _ c.requires.is c.lengths_at.ensures, search rules)
