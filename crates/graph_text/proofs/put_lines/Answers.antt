-- `graph_text::put_lines` meets its contract.
use Rattle.graph_text.proofs.GraphLaws.{lines-put}
use Rattle.graph_text.proofs.put_lines.Goals as goal

pub returns : goal.returns
returns c =
    lines-put c.requires.0 c.put_vertices-to.ensures c.put_edges.ensures
