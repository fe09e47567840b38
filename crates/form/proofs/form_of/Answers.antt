-- `form::form_of` meets its contract.
use mathlib.Core.Path.{sym, ◌∙◌}
use Rattle.defs.specs.Forms.{mark}
use Rattle.form.proofs.FormLaws.{form-short, form-marked, form-other}
use Rattle.form.proofs.form_of.Goals.{else-rec-ge4-via-then-rec-ge4+else-begins_with, else-rec-ge4-via-else-rec-ge4}
use Rattle.form.proofs.form_of.Goals as goal

pub returns-then-begins_with : goal.returns-then-begins_with
unfolding mark
returns-then-begins_with c = form-marked _ (sym c.begins_with.ensures ∙ c.if-begins_with.true)

pub returns : goal.returns
unfolding mark
returns c =
    elim c.else-rec-ge4.branch [
      | else-rec-ge4-via-then-rec-ge4+else-begins_with w ↦ form-other _ (sym w.begins_with.ensures ∙ w.if-begins_with.false)
      | else-rec-ge4-via-else-rec-ge4 w ↦ form-short _ w.if-rec-ge4.false
    ]
