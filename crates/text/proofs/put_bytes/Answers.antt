-- `text::put_bytes` meets its contract.
use Rattle.text.proofs.TextLaws.{bytes-put}
use Rattle.text.proofs.put_bytes.Goals as goal

pub returns : goal.returns
returns c = bytes-put c.args.s.now c.args.text.now c.args.at c.requires c.copy_from_slice.ensures.after
