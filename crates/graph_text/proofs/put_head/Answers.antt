-- `graph_text::put_head` meets its contract.
use Rattle.text.proofs.TextLaws.{put_then}
use Rattle.graph_text.proofs.put_head.Goals as goal

pub returns : goal.returns
returns c =
    put_then c.put_first_line-to.ensures c.put_second_line.ensures
