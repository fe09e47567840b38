-- `connected::remove_vertices_not_connected_to_ref` meets its contract.
use native.Mathlib.Omega.{arith}
use mathlib.Core.Path.{◌∙◌}
use Rattle.refs.proofs.RefLaws.{source-below}
use Rattle.orphans.proofs.OrphanLaws.{reduced-as}
use Rattle.connected.proofs.ConnectedLaws.{reduced-same, no-source-stays, connected-stay}
use Rattle.compact.proofs.CompactLaws.{compactable-kept}
use Rattle.connected.proofs.remove_vertices_not_connected_to_ref.Goals as goal

pub returns-in_default : goal.returns-in_default
returns-in_default c =
    reduced-same
    c.args.held
    c.requires.0.ends
    (no-source-stays c.args.held c.args.es.now c.args.vs.now
    c.reference_source_vertex.ensures c.in_default.is)

pub mark_unreached-requires : goal.mark_unreached-requires
mark_unreached-requires c = (
  source-below c.reference_source_vertex.ensures c.in-Some.is,
  (omega (arith, c.fill.auto.dst, c.requires.0.mp-room), (c.requires.1.0, c.requires.1.1)),
)

pub remove_marked-requires : goal.remove_marked-requires
remove_marked-requires c =
    compactable-kept
    c.requires.0
    (c.mark_unreached.auto.map ∙ c.fill.auto.dst)

pub returns : goal.returns
returns c =
    reduced-as
    (connected-stay c.args.held c.args.es.now c.args.vs.now c.requires.0.ends _
    c.fill.ensures c.reference_source_vertex.ensures c.in-Some.is
    c.mark_unreached.ensures)
    c.remove_marked.ensures
