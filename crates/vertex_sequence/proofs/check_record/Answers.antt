-- `vertex_sequence::check_record` meets its contract.
use Rattle.arrays.proofs.SizedLaws.{is-small, is-large}
use Rattle.vertex_sequence.proofs.check_record.Goals as goal

pub check_in-requires : goal.check_in-requires
check_in-requires c = is-small c.class_to_read.ensures c.in-Small.is

pub check_in-requires-in-Large : goal.check_in-requires-in-Large
check_in-requires-in-Large c = is-large c.class_to_read.ensures c.in-Large.is
