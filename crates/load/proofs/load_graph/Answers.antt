-- `load::load_graph` meets its contract.
use native.Mathlib.Omega.{arith}
use mathlib.Core.Path.{refl}
use Rattle.defs.specs.Forms.{form_of}
use Rattle.record.proofs.Fields.{bytes-at-read}
use Rattle.load.proofs.LoadLaws.{laid-headed, loaded}
use borrow.Author.Rules.{rules}
use Rattle.load.proofs.load_graph.Goals as goal

pub vertex_count-n-requires : goal.vertex_count-n-requires
vertex_count-n-requires c = laid-headed c.requires.1.laid c.form_of-form.ensures

pub edge_count-m-requires : goal.edge_count-m-requires
edge_count-m-requires c =
    laid-headed c.requires.1.laid c.form_of-form.ensures

pub returns : goal.returns
returns c =
    loaded
    c.requires.1.laid
    c.requires.0
    c.vertex_count-n.ensures.0
    c.edge_count-m.ensures.0
    c.load_edges.ensures
    (bytes-at-read _ _ c.form_of-form.ensures c.bytes_at.ensures
    c.vertex_count-n.ensures.0 c.edge_count-m.ensures.0)
    c.load_vertices.ensures
