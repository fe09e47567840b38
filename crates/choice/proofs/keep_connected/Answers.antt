-- `choice::keep_connected` meets its contract.
use mathlib.Core.Path.{◌∙◌}
use Rattle.choice.proofs.ChoiceLaws.{reduced-indexable, reduced-compactable, reduced-walkable, reduced-then}
use Rattle.choice.proofs.keep_connected.Goals as goal

pub remove_singleton_orphan_vertices-a-requires : goal.remove_singleton_orphan_vertices-a-requires
remove_singleton_orphan_vertices-a-requires c =
    (c.requires.0, c.requires.1.0)

pub build_index-requires : goal.build_index-requires
build_index-requires c =
    reduced-indexable
    c.requires.0
    c.requires.1.0
    c.remove_singleton_orphan_vertices-a.ensures
    c.requires.1.1.1
    c.remove_singleton_orphan_vertices-a.auto.es

pub remove_vertices_not_connected_to_ref-requires : goal.remove_vertices_not_connected_to_ref-requires
remove_vertices_not_connected_to_ref-requires c = (
  reduced-compactable c.requires.0 c.requires.1.0 c.remove_singleton_orphan_vertices-a.ensures
      c.remove_singleton_orphan_vertices-a.auto.es c.remove_singleton_orphan_vertices-a.auto.vs
      c.remove_singleton_orphan_vertices-a.auto.map,
  (
    c.build_index.ensures,
    reduced-walkable c.remove_singleton_orphan_vertices-a.ensures c.requires.1.1.0,
  ),
)

pub shape_of-es : goal.shape_of-es
shape_of-es c =
    c.remove_vertices_not_connected_to_ref.auto.es
    ∙ c.remove_singleton_orphan_vertices-a.auto.es

pub shape_of-vs : goal.shape_of-vs
shape_of-vs c =
    c.remove_vertices_not_connected_to_ref.auto.vs
    ∙ c.remove_singleton_orphan_vertices-a.auto.vs

pub shape_of-heads : goal.shape_of-heads
shape_of-heads c = c.build_index.auto.heads

pub shape_of-nexts : goal.shape_of-nexts
shape_of-nexts c = c.build_index.auto.nexts

pub shape_of-nodes : goal.shape_of-nodes
shape_of-nodes c =
    c.remove_vertices_not_connected_to_ref.auto.nodes

pub shape_of-map : goal.shape_of-map
shape_of-map c =
    c.remove_vertices_not_connected_to_ref.auto.map
    ∙ c.remove_singleton_orphan_vertices-a.auto.map

pub shape_of-tried : goal.shape_of-tried
shape_of-tried c =
    c.remove_vertices_not_connected_to_ref.auto.tried

pub returns : goal.returns
returns c =
    reduced-then
    c.remove_singleton_orphan_vertices-a.ensures
    c.remove_vertices_not_connected_to_ref.ensures
