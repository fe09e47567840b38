-- `write_record::put_lengths` meets its contract.
use native.Mathlib.Omega.{arith}
use Prim.Native.Nat.{ℕ, ◌-◌}
use mathlib.Core.Path.{sym, ap, ◌∙◌}
use mathlib.Core.List.{◌++◌}
use Rattle.defs.specs.Forms.{lengths_at}
use Rattle.defs.specs.Record.{word_bytes}
use Rattle.form.specs.Coded.{form_is}
use Rattle.form.proofs.FormLaws.{length-place}
use Rattle.write_record.specs.Written.{length_bytes}
use Rattle.tabs.proofs.SumTabs.{fields, fields-none, fields-more}
use Rattle.write_record.proofs.WriteLaws.{
  Growing,
  growing-start,
  growing-len,
  growing-more,
  growing-end,
  length-at-place,
}
use Rattle.write_record.proofs.put_lengths.Goals as goal

pub loop-i-init : goal.loop-i-init
loop-i-init c =
    growing-start (fields-none (length_bytes (form_is c.args.form) c.args.vs.now))

pub put_word-requires : goal.put_word-requires
put_word-requires c = (
  omega (
    arith,
    c.requires.room,
    growing-len c.loop-i.invariant,
    c.edges_at.ensures,
    length-place c.args.n 0 c.loop-i.i (form_is c.args.form) c.loop-i-test.true,
  ),
  omega (arith, c.len_number.ensures, c.requires.fits c.loop-i.i c.loop-i-test.true),
)

pub loop-i-preserved : goal.loop-i-preserved
loop-i-preserved c =
    growing-more _ _
    c.loop-i.invariant
    c.loop-i-test.true
    (fields-more (length_bytes (form_is c.args.form) c.args.vs.now) c.loop-i.i
    ∙ ap (λ (x : ℕ). fields (length_bytes (form_is c.args.form) c.args.vs.now) c.loop-i.i ++
    word_bytes (form_is c.args.form) x) (sym c.len_number.ensures))
    (c.edges_at.ensures ∙ length-at-place (form_is c.args.form) c.args.vs.now
    c.loop-i.i)
    c.put_word.ensures
