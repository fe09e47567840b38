-- `graph_text::put_edge` meets its contract.
use native.Mathlib.Omega.{arith}
use Rattle.defs.specs.Lists.{tab_from}
use Rattle.store.specs.Store.{edge_in}
use Rattle.text.specs.Printed.{ascii, field}
use Rattle.graph_text.proofs.GraphLaws.{edge-line}
use Rattle.graph_text.proofs.put_edge.Goals as goal

pub put_capped-requires : goal.put_capped-requires
put_capped-requires c = omega (
  arith,
  c.requires.0,
  c.put_field-to.ensures.size,
  c.put_field-to.ensures.end,
  c.put_field-to-2.ensures.size,
  c.put_field-to-2.ensures.end,
  c.put_field-to-3.ensures.size,
  c.put_field-to-3.ensures.end,
  c.put_ref-to.ensures.size,
  c.put_ref-to.ensures.end,
  c.put_field-to.auto.text,
  c.put_field-to-2.auto.text,
  c.put_field-to-3.auto.text,
  c.put_ref-to.auto.text,
)

pub returns : goal.returns
unfolding ascii tab_from field
returns c =
    edge-line
    (edge_in c.args.es.now c.args.i)
    c.edge_from.ensures
    c.edge_to.ensures
    c.edge_support.ensures
    c.edge_is_ref.ensures
    c.edge_is_capped.ensures
    c.put_field-to.ensures
    c.put_field-to-2.ensures
    c.put_field-to-3.ensures
    c.put_ref-to.ensures
    c.put_capped.ensures
