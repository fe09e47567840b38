-- `reading_calls::answer_graph` meets its contract.
use Rattle.reading_calls.proofs.ReadingLaws.{answer-cleaned, answer-reference, answer-path}
use Rattle.reading_calls.proofs.answer_graph.Goals as goal

pub returns-in-CleanNonRefPaths : goal.returns-in-CleanNonRefPaths
returns-in-CleanNonRefPaths c = answer-cleaned _ _ c.in-CleanNonRefPaths.is c.clean_in.ensures

pub reference_in-requires : goal.reference_in-requires
reference_in-requires c =
    c.requires.tellable

pub returns-in-ReferencePathBytes : goal.returns-in-ReferencePathBytes
returns-in-ReferencePathBytes c = answer-reference _ _ c.in-ReferencePathBytes.is c.reference_in.ensures

pub path_in-requires : goal.path_in-requires
path_in-requires c =
    c.requires.tellable

pub returns-in-PathBasesBytes : goal.returns-in-PathBasesBytes
returns-in-PathBasesBytes c = answer-path _ _ c.in-PathBasesBytes.is c.path_in.ensures
