-- `write_record::put_letters` meets its contract.
use native.Mathlib.Omega.{arith}
use Rattle.le.proofs.Parts.{put_front-sets}
use Rattle.write_record.proofs.put_letters.Goals as goal

pub returns : goal.returns
returns c = put_front-sets 4 _ _ c.args.letters.now c.copy_from_slice.ensures.after (omega arith) (omega arith)
