-- `reading_calls::reference_in` meets its contract.
use Rattle.reading_calls.proofs.BytesLaws.{reference-counted, reference-answered}
use Rattle.reading_calls.proofs.reference_in.Goals as goal

pub tell-requires : goal.tell-requires
tell-requires c = reference-counted c.requires c.reference_path_bytes-told.ensures

pub returns : goal.returns
returns c =
    reference-answered
    c.reference_path_bytes-told.ensures
    c.reference_path_bytes-told.auto.out
    c.tell.ensures
