-- `cleanup_steps::after_choice` meets its contract.
use Rattle.refs.proofs.RefLaws.{source-below, sink-below}
use Rattle.cleanup_steps.proofs.CleanUpLaws.{after-no-source, after-no-sink, after-chosen}
use Rattle.cleanup_steps.proofs.after_choice.Goals as goal

pub returns-in_default : goal.returns-in_default
returns-in_default c =
    after-no-source
    c.args.work
    c.requires.0.holds
    c.requires.1.1.1.0
    c.in_default.is
    c.just_reference.ensures

pub returns-in_default-sink : goal.returns-in_default-sink
returns-in_default-sink c =
    after-no-sink
    c.args.work
    c.requires.0.holds
    c.requires.1.1.1.0
    c.in-Some.is
    c.requires.1.1.1.1
    c.in_default-sink.is
    c.just_reference-in_default-sink.ensures

pub keep_between-requires : goal.keep_between-requires
keep_between-requires c = (
  c.requires.0,
  (
    c.requires.1.0,
    (
      c.requires.1.1.0,
      (source-below c.requires.1.1.1.0 c.in-Some.is, sink-below c.requires.1.1.1.1 c.in-Some-sink.is),
    ),
  ),
)

pub shape_of-es : goal.shape_of-es
shape_of-es c =
    c.keep_between.auto.es

pub shape_of-vs : goal.shape_of-vs
shape_of-vs c =
    c.keep_between.auto.vs

pub shape_of-p : goal.shape_of-p
shape_of-p c =
    c.keep_between.auto.p

pub shape_of-heads : goal.shape_of-heads
shape_of-heads c =
    c.keep_between.auto.heads

pub shape_of-nexts : goal.shape_of-nexts
shape_of-nexts c =
    c.keep_between.auto.nexts

pub shape_of-nodes : goal.shape_of-nodes
shape_of-nodes c =
    c.keep_between.auto.nodes

pub shape_of-map : goal.shape_of-map
shape_of-map c =
    c.keep_between.auto.map

pub shape_of-starts : goal.shape_of-starts
shape_of-starts c =
    c.keep_between.auto.starts

pub shape_of-tried : goal.shape_of-tried
shape_of-tried c =
    c.keep_between.auto.tried

pub shape_of-sig : goal.shape_of-sig
shape_of-sig c =
    c.keep_between.auto.sig

pub returns : goal.returns
returns c =
    after-chosen
    c.requires.1.1.1.0
    c.in-Some.is
    c.requires.1.1.1.1
    c.in-Some-sink.is
    c.keep_between.ensures
