-- `edge_data::new_flag` meets its contract.
use mathlib.Core.Path.{◌≡◌, refl, ◌∙◌}
use mathlib.Core.Bool.{Bool, true, false}
use mir.Val.{bool_byte}
use Rattle.defs.specs.Lists.{bit}
use Rattle.edge_data.proofs.new_flag.Goals as goal

byte-bit : (b : Bool) → bool_byte b ≡ bit b
unfolding bit
byte-bit true = refl
byte-bit false = refl

pub returns : goal.returns
returns c = c.from.ensures ∙ byte-bit c.args.reference
