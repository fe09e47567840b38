-- `graph_text::put_ref` meets its contract.
use Rattle.defs.specs.Lists.{tab_from}
use Rattle.text.specs.Printed.{ascii}
use Rattle.graph_text.proofs.GraphLaws.{put_one, put_other}
use Rattle.graph_text.proofs.put_ref.Goals as goal

pub returns-then-reference : goal.returns-then-reference
unfolding ascii tab_from
returns-then-reference c =
    put_one 2 c.args.reference (ascii " r") (ascii " -") c.if-reference.true c.put_bytes.ensures

pub returns-else-reference : goal.returns-else-reference
unfolding ascii tab_from
returns-else-reference c =
    put_other 2 c.args.reference (ascii " r") (ascii " -") c.if-reference.false c.put_bytes-else-reference.ensures
