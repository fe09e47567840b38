-- `reference::reference_path_bytes` meets its contract.
use native.Mathlib.Omega.{arith}
use Rattle.refs.proofs.RefLaws.{source-below, sink-below}
use Rattle.paths.proofs.RouteLaws.{route-listed}
use Rattle.reference.proofs.AnswerLaws.{no_source, no-sink, no_walk, walked-route, walked-told}
use Rattle.reference.proofs.reference_path_bytes.Goals as goal

pub returns-in_default : goal.returns-in_default
returns-in_default c = no_source c.requires.0 c.reference_source_vertex.ensures _ c.in_default.is

pub returns-in_default-reference_sink_vertex : goal.returns-in_default-reference_sink_vertex
returns-in_default-reference_sink_vertex c =
    no-sink
    c.requires.0
    c.reference_source_vertex.ensures
    c.in-Some.is
    c.reference_sink_vertex.ensures _
    c.in_default-reference_sink_vertex.is

pub overflow_cast-source : goal.overflow_cast-source
overflow_cast-source c =
    omega (arith, c.requires.0.small, source-below c.reference_source_vertex.ensures c.in-Some.is)

pub overflow_cast-sink : goal.overflow_cast-sink
overflow_cast-sink c =
    omega (arith, c.requires.0.small, sink-below c.reference_sink_vertex.ensures c.in-Some-reference_sink_vertex.is)

pub reference_path-requires : goal.reference_path-requires
reference_path-requires c = (
  record {
    source-below = source-below c.reference_source_vertex.ensures c.in-Some.is;
    room = c.requires.0.nodes-room;
    small = c.requires.0.small;
  },
  c.requires.1,
)

pub returns-in_err-count : goal.returns-in_err-count
returns-in_err-count c =
    rw c.from_residual.ensures
    (no_walk
    c.requires.0
    c.reference_source_vertex.ensures
    c.in-Some.is
    c.reference_sink_vertex.ensures
    c.in-Some-reference_sink_vertex.is
    c.reference_path.ensures _
    c.in_err-count.was)

pub spell-requires : goal.spell-requires
spell-requires c =
    route-listed
    c.requires.0
    (walked-route c.requires.0 c.reference_source_vertex.ensures c.in-Some.is
    c.reference_sink_vertex.ensures c.in-Some-reference_sink_vertex.is c.reference_path.ensures
    c.in_ok-count.was c.reference_path.auto.nodes)

pub returns : goal.returns
returns c =
    walked-told
    c.requires.0
    c.reference_source_vertex.ensures
    c.in-Some.is
    c.reference_sink_vertex.ensures
    c.in-Some-reference_sink_vertex.is
    c.reference_path.ensures
    c.in_ok-count.was
    c.reference_path.auto.nodes
    c.spell.ensures
