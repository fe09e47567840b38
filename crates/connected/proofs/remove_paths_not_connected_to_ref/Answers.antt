-- `connected::remove_paths_not_connected_to_ref` meets its contract.
use native.Mathlib.Omega.{arith}
use mathlib.Core.Path.{◌∙◌}
use Rattle.reach.proofs.ReachLaws.{walkable-kept}
use Rattle.orphans.proofs.OrphanLaws.{reduced-as}
use Rattle.connected.proofs.ConnectedLaws.{paths-stay}
use Rattle.compact.proofs.CompactLaws.{compactable-kept}
use Rattle.connected.proofs.remove_paths_not_connected_to_ref.Goals as goal

pub mark_unreached-requires : goal.mark_unreached-requires
mark_unreached-requires c = (
  c.requires.0,
  (
    omega (arith, c.fill.auto.dst, c.requires.1.1.0.mp-room),
    (c.requires.1.1.1.0, c.requires.1.1.1.1),
  ),
)

pub mark_unreached-requires-2 : goal.mark_unreached-requires-2
mark_unreached-requires-2 c = (
  c.requires.1.0,
  (
    omega (
      arith,
      c.mark_unreached.auto.map,
      c.fill.auto.dst,
      c.requires.1.1.0.mp-room,
    ),
    (
      c.requires.1.1.1.0,
      walkable-kept c.requires.1.1.1.1 c.mark_unreached.auto.tried
          c.mark_unreached.auto.nodes,
    ),
  ),
)

pub remove_marked-requires : goal.remove_marked-requires
remove_marked-requires c =
    compactable-kept
    c.requires.1.1.0
    (c.mark_unreached-2.auto.map
    ∙ c.mark_unreached.auto.map
    ∙ c.fill.auto.dst)

pub returns : goal.returns
returns c =
    reduced-as
    (paths-stay c.args.held c.args.es.now c.args.vs.now c.requires.1.1.0.ends _
    c.fill.ensures c.mark_unreached.ensures
    c.mark_unreached-2.ensures)
    c.remove_marked.ensures
