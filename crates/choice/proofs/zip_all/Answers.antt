-- `choice::zip_all` meets its contract.
use native.Mathlib.Omega.{arith}
use mathlib.Core.Path.{◌∙◌}
use Rattle.choice.proofs.ChoiceLaws.{zippable-indexable, zippable-ready}
use Rattle.choice.proofs.zip_all.Goals as goal

pub build_index-requires : goal.build_index-requires
build_index-requires c = zippable-indexable c.requires

pub zip_linear_chains-requires : goal.zip_linear_chains-requires
zip_linear_chains-requires c = (
  zippable-ready c.requires c.build_index.ensures c.build_index.auto.heads
      c.build_index.auto.nexts,
  omega (arith, c.requires.starts-room, c.build_index.auto.heads),
)

pub shape_of-es : goal.shape_of-es
shape_of-es c =
    c.zip_linear_chains.auto.es

pub shape_of-vs : goal.shape_of-vs
shape_of-vs c =
    c.zip_linear_chains.auto.vs

pub shape_of-p : goal.shape_of-p
shape_of-p c =
    c.zip_linear_chains.auto.p

pub shape_of-heads : goal.shape_of-heads
shape_of-heads c = c.zip_linear_chains.auto.heads ∙ c.build_index.auto.heads

pub shape_of-nexts : goal.shape_of-nexts
shape_of-nexts c = c.zip_linear_chains.auto.nexts ∙ c.build_index.auto.nexts

pub shape_of-nodes : goal.shape_of-nodes
shape_of-nodes c =
    c.zip_linear_chains.auto.nodes

pub shape_of-map : goal.shape_of-map
shape_of-map c =
    c.zip_linear_chains.auto.map

pub shape_of-starts : goal.shape_of-starts
shape_of-starts c =
    c.zip_linear_chains.auto.froms

pub returns : goal.returns
returns c =
    c.zip_linear_chains.ensures
