-- `graph_text::put_vertex` meets its contract.
use Rattle.defs.specs.Lists.{tab_from}
use Rattle.text.specs.Printed.{ascii, field}
use Rattle.graph_text.proofs.GraphLaws.{vertex-line}
use Rattle.graph_text.proofs.put_vertex.Goals as goal

pub returns : goal.returns
unfolding ascii tab_from field
returns c =
    vertex-line
    c.args.vs.now
    c.args.p.now
    c.args.v
    c.requires.within
    c.vertex_start-start.ensures
    c.vertex_len-len.ensures
    c.put_field-to.ensures
    c.put_bytes-to.ensures
    c.put_sequence-to.ensures
    c.put_bytes.ensures
