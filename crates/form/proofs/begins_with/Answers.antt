-- `form::begins_with` meets its contract.
use mathlib.Core.Path.{◌∙◌}
use Rattle.le.proofs.Parts.{pointwise-same}
use Rattle.form.proofs.begins_with.Goals as goal

pub returns : goal.returns
returns c = c.eq.ensures ∙ pointwise-same _ _
