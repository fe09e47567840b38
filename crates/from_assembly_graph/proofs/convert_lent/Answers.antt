-- `from_assembly_graph::convert_lent` meets its contract.
use Rattle.from_assembly_graph.proofs.ConvertsLaws.{refused-sent, held-to-convert, room-to-convert-kept}
use Rattle.from_assembly_graph.proofs.convert_lent.Goals as goal

pub returns-in-Err : goal.returns-in-Err
returns-in-Err c =
    refused-sent c.read_overlapping_kmer_graph.ensures c.in-Err.is c.from.ensures

pub convert_held-requires : goal.convert_held-requires
convert_held-requires c =
    let kept = c.read_overlapping_kmer_graph.auto in
    held-to-convert
    c.read_overlapping_kmer_graph.ensures
    c.in-Ok.is
    (room-to-convert-kept c.requires kept.es kept.vs kept.heads kept.nexts kept.order kept.scratch kept.place)
