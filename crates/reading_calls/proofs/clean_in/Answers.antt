-- `reading_calls::clean_in` meets its contract.
use Rattle.reading_calls.proofs.ReadingLaws.{answerable-walkable, cleaned-sendable, cleaned-answered}
use Rattle.reading_calls.proofs.clean_in.Goals as goal

pub clean_non_ref_paths-cleaned-requires : goal.clean_non_ref_paths-cleaned-requires
clean_non_ref_paths-cleaned-requires c =
    answerable-walkable c.requires

pub returns : goal.returns
returns c =
    cleaned-answered c.form_of.ensures c.clean_non_ref_paths-cleaned.ensures c.send_record.ensures

pub send_record-requires : goal.send_record-requires
send_record-requires c =
    cleaned-sendable c.requires c.form_of.ensures c.clean_non_ref_paths-cleaned.ensures c.clean_non_ref_paths-cleaned.auto.es
    c.clean_non_ref_paths-cleaned.auto.vs
