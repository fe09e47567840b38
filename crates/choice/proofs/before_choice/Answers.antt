-- `choice::before_choice` meets its contract.
use native.Mathlib.Omega.{arith}
use mathlib.Core.Path.{refl, ◌∙◌}
use Rattle.choice.proofs.ChoiceLaws.{
  cleanable-next,
  cleanable-zippable,
  cleanable-simplifiable,
  zipped-connectable,
  cut-lean,
  before-most,
  before-all,
}
use Rattle.choice.proofs.before_choice.Goals as goal

pub zip_all-z-requires : goal.zip_all-z-requires
zip_all-z-requires c =
    cleanable-zippable c.requires

pub keep_connected-a-requires : goal.keep_connected-a-requires
keep_connected-a-requires c =
    zipped-connectable
    c.zip_all-z.ensures
    (omega (arith, c.requires.scratch.tried-room, c.zip_all-z.auto.heads))

pub simplify_graph_full-s-requires : goal.simplify_graph_full-s-requires
simplify_graph_full-s-requires c =
    cleanable-simplifiable
    (cleanable-next c.requires
    (cut-lean c.requires.holds c.zip_all-z.ensures c.zip_all-z.auto.heads
    c.keep_connected-a.ensures)
    (c.keep_connected-a.auto.es ∙ c.zip_all-z.auto.es)
    (c.keep_connected-a.auto.vs ∙ c.zip_all-z.auto.vs)
    c.zip_all-z.auto.p
    (c.keep_connected-a.auto.heads ∙ c.zip_all-z.auto.heads)
    (c.keep_connected-a.auto.nexts ∙ c.zip_all-z.auto.nexts)
    (c.keep_connected-a.auto.nodes ∙ c.zip_all-z.auto.nodes)
    (c.keep_connected-a.auto.map ∙ c.zip_all-z.auto.map)
    c.zip_all-z.auto.starts
    c.keep_connected-a.auto.tried refl)

pub overflow_add-result : goal.overflow_add-result
overflow_add-result c =
    omega (
      arith,
      before-most c.requires.holds c.zip_all-z.ensures c.zip_all-z.auto.heads
          c.keep_connected-a.ensures c.simplify_graph_full-s.ensures,
      c.requires.countable.small,
    )

pub shape_of-es : goal.shape_of-es
shape_of-es c =
    c.simplify_graph_full-s.auto.es
    ∙ c.keep_connected-a.auto.es
    ∙ c.zip_all-z.auto.es

pub shape_of-vs : goal.shape_of-vs
shape_of-vs c =
    c.simplify_graph_full-s.auto.vs
    ∙ c.keep_connected-a.auto.vs
    ∙ c.zip_all-z.auto.vs

pub shape_of-p : goal.shape_of-p
shape_of-p c = c.simplify_graph_full-s.auto.p ∙ c.zip_all-z.auto.p

pub shape_of-heads : goal.shape_of-heads
shape_of-heads c =
    c.simplify_graph_full-s.auto.heads
    ∙ c.keep_connected-a.auto.heads
    ∙ c.zip_all-z.auto.heads

pub shape_of-nexts : goal.shape_of-nexts
shape_of-nexts c =
    c.simplify_graph_full-s.auto.nexts
    ∙ c.keep_connected-a.auto.nexts
    ∙ c.zip_all-z.auto.nexts

pub shape_of-nodes : goal.shape_of-nodes
shape_of-nodes c =
    c.simplify_graph_full-s.auto.nodes
    ∙ c.keep_connected-a.auto.nodes
    ∙ c.zip_all-z.auto.nodes

pub shape_of-map : goal.shape_of-map
shape_of-map c =
    c.simplify_graph_full-s.auto.map
    ∙ c.keep_connected-a.auto.map
    ∙ c.zip_all-z.auto.map

pub shape_of-starts : goal.shape_of-starts
shape_of-starts c =
    c.simplify_graph_full-s.auto.starts
    ∙ c.zip_all-z.auto.starts

pub shape_of-tried : goal.shape_of-tried
shape_of-tried c =
    c.simplify_graph_full-s.auto.tried
    ∙ c.keep_connected-a.auto.tried

pub shape_of-sig : goal.shape_of-sig
shape_of-sig c = c.simplify_graph_full-s.auto.sig

pub returns : goal.returns
returns c =
    before-all
    c.requires.holds
    c.zip_all-z.ensures
    c.zip_all-z.auto.heads
    c.keep_connected-a.ensures
    c.simplify_graph_full-s.ensures refl
    (c.keep_connected-a.auto.heads ∙ c.zip_all-z.auto.heads)
    (c.keep_connected-a.auto.nexts ∙ c.zip_all-z.auto.nexts)
