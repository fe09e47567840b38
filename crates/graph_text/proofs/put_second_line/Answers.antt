-- `graph_text::put_second_line` meets its contract.
use Rattle.defs.specs.Lists.{tab_from}
use Rattle.text.specs.Printed.{ascii, field}
use Rattle.graph_text.specs.GraphText.{end_with_number}
use Rattle.graph_text.proofs.GraphLaws.{second-line}
use Rattle.graph_text.proofs.put_second_line.Goals as goal

pub returns : goal.returns
unfolding ascii tab_from field
returns c =
    second-line
    c.args.rewrites
    c.args.rounds
    (end_with_number c.args.end)
    c.put_field-to.ensures
    c.put_field-to-2.ensures
    c.put_bytes-to.ensures
    c.put_end-to.ensures
    c.put_bytes.ensures
