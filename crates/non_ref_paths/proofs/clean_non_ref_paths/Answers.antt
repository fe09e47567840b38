-- `non_ref_paths::clean_non_ref_paths` meets its contract.
use Rattle.refs.proofs.RefLaws.{source-below, sink-below}
use Rattle.orphans.proofs.OrphanLaws.{reduced-as}
use Rattle.non_ref_paths.proofs.CleanNonRefLaws.{untouched, no_source, no-sink, chosen_is}
use Rattle.non_ref_paths.proofs.clean_non_ref_paths.Goals as goal

pub build_index-requires : goal.build_index-requires
build_index-requires c = c.requires.1.0

pub reference_source_vertex-requires : goal.reference_source_vertex-requires
reference_source_vertex-requires c = c.build_index.ensures

pub returns-in_default : goal.returns-in_default
returns-in_default c =
    untouched
    c.args.held
    c.requires.0.ends
    (no_source c.args.held c.args.es.now c.args.vs.now
    c.reference_source_vertex.ensures c.in_default.is)

pub reference_sink_vertex-requires : goal.reference_sink_vertex-requires
reference_sink_vertex-requires c = c.build_index.ensures

pub returns-in_default-reference_sink_vertex : goal.returns-in_default-reference_sink_vertex
returns-in_default-reference_sink_vertex c =
    untouched
    c.args.held
    c.requires.0.ends
    (no-sink c.args.held c.args.es.now c.args.vs.now
    c.reference_source_vertex.ensures c.in-Some.is c.reference_sink_vertex.ensures
    c.in_default-reference_sink_vertex.is)

pub clean_between-requires : goal.clean_between-requires
clean_between-requires c = (
  source-below c.reference_source_vertex.ensures c.in-Some.is,
  (
    sink-below c.reference_sink_vertex.ensures c.in-Some-reference_sink_vertex.is,
    (c.requires.1.0.small, (c.requires.0, (c.build_index.ensures, c.requires.1.1))),
  ),
)

pub returns : goal.returns
returns c =
    reduced-as
    (chosen_is c.args.held c.args.es.now c.args.vs.now
    c.reference_source_vertex.ensures c.in-Some.is c.reference_sink_vertex.ensures
    c.in-Some-reference_sink_vertex.is)
    c.clean_between.ensures
