-- `le::put_u32` meets its contract.
use native.Mathlib.Omega.{arith}
use mathlib.Core.Path.{◌∙◌}
use Rattle.defs.specs.Record.{le32}
use Rattle.le.proofs.Parts.{put_mid-sets}
use Rattle.le.proofs.put_u32.Goals as goal

pub returns : goal.returns
unfolding le32
returns c = put_mid-sets _ _ _ _ (le32 c.args.v) (c.copy_from_slice.ensures.after ∙ c.to_le_bytes.ensures) (omega arith) (omega arith)
