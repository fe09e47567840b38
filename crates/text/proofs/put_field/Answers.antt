-- `text::put_field` meets its contract.
use Rattle.text.proofs.TextLaws.{put_then}
use Rattle.text.proofs.put_field.Goals as goal

pub returns : goal.returns
returns c =
    put_then c.put_bytes-behind.ensures c.put_decimal.ensures
