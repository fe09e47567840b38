-- `graph_text::put_refusal` meets its contract.
use Rattle.defs.specs.Lists.{tab_from}
use Rattle.text.specs.Printed.{ascii, field}
use Rattle.graph_text.proofs.GraphLaws.{refusal-line}
use Rattle.graph_text.proofs.put_refusal.Goals as goal

pub returns : goal.returns
unfolding ascii tab_from field
returns c =
    refusal-line c.args.number c.put_field-to.ensures c.put_bytes.ensures
