-- `cleanup_steps::keep_between` meets its contract.
use native.Mathlib.Omega.{arith}
use mathlib.Core.Path.{refl, ◌∙◌}
use Rattle.choice.proofs.ChoiceLaws.{cleanable-next, cleanable-compactable, cleanable-walkable, cleanable-simplifiable}
use Rattle.cleanup_steps.proofs.CleanUpLaws.{dummy-room, between-lean, between-counted, between-after}
use Rattle.cleanup_steps.proofs.keep_between.Goals as goal

pub remove_paths_not_connected_to_ref-b-requires : goal.remove_paths_not_connected_to_ref-b-requires
remove_paths_not_connected_to_ref-b-requires c = (
  c.requires.1.1.1.0,
  (
    c.requires.1.1.1.1,
    (cleanable-compactable c.requires.0, (c.requires.1.0, cleanable-walkable c.requires.0)),
  ),
)

pub simplify_graph_full-z-requires : goal.simplify_graph_full-z-requires
simplify_graph_full-z-requires c =
    cleanable-simplifiable
    (cleanable-next c.requires.0
    (between-lean c.args.work c.args.s c.args.t c.requires.0.holds
    c.remove_paths_not_connected_to_ref-b.ensures)
    c.remove_paths_not_connected_to_ref-b.auto.es
    c.remove_paths_not_connected_to_ref-b.auto.vs refl refl refl
    c.remove_paths_not_connected_to_ref-b.auto.nodes
    c.remove_paths_not_connected_to_ref-b.auto.map refl
    c.remove_paths_not_connected_to_ref-b.auto.tried refl)

pub add_dummy_vertex-requires : goal.add_dummy_vertex-requires
add_dummy_vertex-requires c =
    dummy-room
    c.simplify_graph_full-z.new.es
    c.simplify_graph_full-z.new.vs
    c.requires.0
    (c.simplify_graph_full-z.auto.es ∙ c.remove_paths_not_connected_to_ref-b.auto.es)
    (c.simplify_graph_full-z.auto.vs ∙ c.remove_paths_not_connected_to_ref-b.auto.vs)

pub overflow_add-result : goal.overflow_add-result
overflow_add-result c =
    omega (
      arith,
      between-counted c.args.work c.args.s c.args.t c.requires.0.holds
          c.remove_paths_not_connected_to_ref-b.ensures c.simplify_graph_full-z.ensures
          c.requires.1.1.0,
    )

pub shape_of-es : goal.shape_of-es
shape_of-es c =
    c.add_dummy_vertex.auto.es
    ∙ c.simplify_graph_full-z.auto.es
    ∙ c.remove_paths_not_connected_to_ref-b.auto.es

pub shape_of-vs : goal.shape_of-vs
shape_of-vs c =
    c.add_dummy_vertex.auto.vs
    ∙ c.simplify_graph_full-z.auto.vs
    ∙ c.remove_paths_not_connected_to_ref-b.auto.vs

pub shape_of-p : goal.shape_of-p
shape_of-p c = c.simplify_graph_full-z.auto.p

pub shape_of-heads : goal.shape_of-heads
shape_of-heads c = c.simplify_graph_full-z.auto.heads

pub shape_of-nexts : goal.shape_of-nexts
shape_of-nexts c = c.simplify_graph_full-z.auto.nexts

pub shape_of-nodes : goal.shape_of-nodes
shape_of-nodes c =
    c.simplify_graph_full-z.auto.nodes
    ∙ c.remove_paths_not_connected_to_ref-b.auto.nodes

pub shape_of-map : goal.shape_of-map
shape_of-map c =
    c.simplify_graph_full-z.auto.map
    ∙ c.remove_paths_not_connected_to_ref-b.auto.map

pub shape_of-starts : goal.shape_of-starts
shape_of-starts c = c.simplify_graph_full-z.auto.starts

pub shape_of-tried : goal.shape_of-tried
shape_of-tried c =
    c.simplify_graph_full-z.auto.tried
    ∙ c.remove_paths_not_connected_to_ref-b.auto.tried

pub shape_of-sig : goal.shape_of-sig
shape_of-sig c = c.simplify_graph_full-z.auto.sig

pub returns : goal.returns
returns c =
    between-after
    c.args.work
    c.args.s
    c.args.t
    c.requires.0.holds
    c.remove_paths_not_connected_to_ref-b.ensures
    c.simplify_graph_full-z.ensures
    c.add_dummy_vertex.ensures refl refl refl
