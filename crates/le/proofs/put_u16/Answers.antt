-- `le::put_u16` meets its contract.
use native.Mathlib.Omega.{arith}
use mathlib.Core.Path.{◌∙◌}
use Rattle.defs.specs.Record.{le16}
use Rattle.le.proofs.Parts.{put_mid-sets}
use Rattle.le.proofs.put_u16.Goals as goal

pub returns : goal.returns
unfolding le16
returns c = put_mid-sets _ _ _ _ (le16 c.args.v) (c.copy_from_slice.ensures.after ∙ c.to_le_bytes.ensures) (omega arith) (omega arith)
