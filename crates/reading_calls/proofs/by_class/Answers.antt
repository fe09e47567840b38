-- `reading_calls::by_class` meets its contract.
use Rattle.arrays.proofs.SizedLaws.{is-small, is-large}
use Rattle.reading_calls.proofs.by_class.Goals as goal

pub answer_in-requires : goal.answer_in-requires
answer_in-requires c = is-small c.class_to_read.ensures c.in-Small.is

pub answer_in-requires-in-Large : goal.answer_in-requires-in-Large
answer_in-requires-in-Large c = is-large c.class_to_read.ensures c.in-Large.is
