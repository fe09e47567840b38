-- `cleanup_steps::cleanup_seq_graph` meets its contract.
use mathlib.Core.Path.{◌∙◌}
use Rattle.choice.proofs.ChoiceLaws.{cleanable-next}
use Rattle.cleanup_steps.proofs.CleanUpLaws.{choice-countable, choice-indexable, cleaned-up}
use Rattle.cleanup_steps.proofs.cleanup_seq_graph.Goals as goal

pub build_index-requires : goal.build_index-requires
build_index-requires c =
    choice-indexable
    c.requires
    c.before_choice-w.ensures
    c.before_choice-w.auto.es
    c.before_choice-w.auto.heads
    c.before_choice-w.auto.nexts

pub reference_source_vertex-source-requires : goal.reference_source_vertex-source-requires
reference_source_vertex-source-requires c = c.build_index.ensures

pub reference_sink_vertex-sink-requires : goal.reference_sink_vertex-sink-requires
reference_sink_vertex-sink-requires c = c.build_index.ensures

pub after_choice-requires : goal.after_choice-requires
after_choice-requires c = (
  cleanable-next c.requires c.before_choice-w.ensures.holds
      c.before_choice-w.auto.es c.before_choice-w.auto.vs
      c.before_choice-w.auto.p
      (c.build_index.auto.heads ∙ c.before_choice-w.auto.heads)
      (c.build_index.auto.nexts ∙ c.before_choice-w.auto.nexts)
      c.before_choice-w.auto.nodes
      c.before_choice-w.auto.map
      c.before_choice-w.auto.starts
      c.before_choice-w.auto.tried
      c.before_choice-w.auto.sig,
  (
    c.build_index.ensures,
    (
      choice-countable c.requires c.before_choice-w.ensures
          (c.build_index.auto.heads ∙ c.before_choice-w.auto.heads),
      (c.reference_source_vertex-source.ensures, c.reference_sink_vertex-sink.ensures),
    ),
  ),
)

pub shape_of-es : goal.shape_of-es
shape_of-es c = c.after_choice.auto.es ∙ c.before_choice-w.auto.es

pub shape_of-vs : goal.shape_of-vs
shape_of-vs c =
    c.after_choice.auto.vs ∙ c.before_choice-w.auto.vs

pub shape_of-p : goal.shape_of-p
shape_of-p c =
    c.after_choice.auto.p ∙ c.before_choice-w.auto.p

pub shape_of-heads : goal.shape_of-heads
shape_of-heads c =
    c.after_choice.auto.heads
    ∙ c.build_index.auto.heads
    ∙ c.before_choice-w.auto.heads

pub shape_of-nexts : goal.shape_of-nexts
shape_of-nexts c =
    c.after_choice.auto.nexts
    ∙ c.build_index.auto.nexts
    ∙ c.before_choice-w.auto.nexts

pub shape_of-nodes : goal.shape_of-nodes
shape_of-nodes c =
    c.after_choice.auto.nodes
    ∙ c.before_choice-w.auto.nodes

pub shape_of-map : goal.shape_of-map
shape_of-map c =
    c.after_choice.auto.map
    ∙ c.before_choice-w.auto.map

pub shape_of-starts : goal.shape_of-starts
shape_of-starts c =
    c.after_choice.auto.starts
    ∙ c.before_choice-w.auto.starts

pub shape_of-tried : goal.shape_of-tried
shape_of-tried c =
    c.after_choice.auto.tried
    ∙ c.before_choice-w.auto.tried

pub shape_of-sig : goal.shape_of-sig
shape_of-sig c =
    c.after_choice.auto.sig
    ∙ c.before_choice-w.auto.sig

pub returns : goal.returns
returns c =
    cleaned-up
    c.before_choice-w.ensures
    c.after_choice.ensures
    (c.build_index.auto.heads ∙ c.before_choice-w.auto.heads)
    (c.build_index.auto.nexts ∙ c.before_choice-w.auto.nexts)
