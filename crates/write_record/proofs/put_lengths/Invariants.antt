-- What each turn of the loop keeps.
use native.Mathlib.Omega.{arith}
use Prim.Native.Nat.{ℕ, ◌-◌}
use mathlib.Core.Path.{sym, ap, ◌∙◌}
use mathlib.Core.List.{◌++◌}
use Rattle.defs.specs.Forms.{lengths_at}
use Rattle.defs.specs.Record.{word_bytes}
use Rattle.form.specs.Coded.{form_is}
use Rattle.form.proofs.FormLaws.{length-place}
use Rattle.write_record.specs.Written.{length_bytes}
use Rattle.tabs.proofs.SumTabs.{fields, fields-none, fields-more}
use Rattle.write_record.proofs.WriteLaws.{
  Growing,
  growing-start,
  growing-len,
  growing-more,
  growing-end,
  length-at-place,
}
use Rattle.write_record.proofs.put_lengths.Given as goal

abbrev pub invariant-loop-i : goal.invariant-loop-i
invariant-loop-i l = Growing l.n (fields (length_bytes (form_is l.form) l.vs)) l.initial.out (lengths_at (form_is l.form)) l.out l.i
