-- `record::other_length` meets its contract.
use native.Mathlib.Omega.{arith}
use mathlib.Core.Path.{◌∙◌, sym, ap}
use Rattle.record.proofs.Fields.{header-same, stated-read}
use Rattle.record.proofs.Tests.{short, stated}
use Rattle.form.specs.Coded.{form_is}
use Rattle.form.proofs.FormLaws.{sizes}
use borrow.Author.Rules.{rules}
use Rattle.record.proofs.other_length.Goals as goal

pub returns-then-rec-header : goal.returns-then-rec-header
returns-then-rec-header c =
    short c.args.rec.now (c.lengths_at-header.ensures ∙ header-same _ _ c.requires) c.if-rec-header.true

pub overflow_sub-header : goal.overflow_sub-header
overflow_sub-header c = omega (arith, c.lengths_at-header.ensures, (sizes (form_is c.args.form)).header-least)

pub u32_at-requires : goal.u32_at-requires
u32_at-requires c =
    omega (arith, c.lengths_at-header.ensures, (sizes (form_is c.args.form)).header-least, c.if-rec-header.false)

pub returns : goal.returns
returns c =
    stated
    c.args.rec.now
    (c.lengths_at-header.ensures ∙ header-same _ _ c.requires)
    c.u32_at.result
    c.if-rec-header.false
    (c.u32_at.ensures ∙ stated-read _ _ c.requires c.lengths_at-header.ensures)
