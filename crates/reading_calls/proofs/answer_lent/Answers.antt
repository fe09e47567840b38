-- `reading_calls::answer_lent` meets its contract.
use Rattle.arrays.proofs.SizedLaws.{room-to-mark-kept}
use Rattle.reading_calls.proofs.ReadingLaws.{room-answerable, record-refused, record-answered}
use mathlib.Core.Path.{refl}
use Rattle.reading_calls.proofs.answer_lent.Goals as goal

pub returns-in-Err : goal.returns-in-Err
returns-in-Err c =
    record-refused _ _ c.read_sequence_graph.ensures c.in-Err.is c.from.ensures

pub answer_graph-requires : goal.answer_graph-requires
answer_graph-requires c =
    let kept = c.read_sequence_graph.auto in
    room-answerable
    (room-to-mark-kept c.requires kept.es kept.vs kept.heads kept.nexts kept.nodes kept.map refl)
    c.read_sequence_graph.ensures c.in-Ok.is

pub returns : goal.returns
returns c = record-answered _ _ c.read_sequence_graph.ensures c.in-Ok.is c.answer_graph.ensures
