-- `reading_calls::path_in` meets its contract.
use Rattle.reading_calls.proofs.BytesLaws.{path-counted, path-answered}
use Rattle.reading_calls.proofs.path_in.Goals as goal

pub tell-requires : goal.tell-requires
tell-requires c = path-counted c.requires _ _ c.path_bases_bytes-told.ensures

pub returns : goal.returns
returns c =
    path-answered _ _
    c.path_bases_bytes-told.ensures
    c.path_bases_bytes-told.auto.out
    c.tell.ensures
