-- `from_assembly_graph::convert` meets its contract.
use Rattle.arrays.proofs.SizedLaws.{is-small, is-large}
use Rattle.from_assembly_graph.proofs.convert.Goals as goal

pub convert_in-requires : goal.convert_in-requires
convert_in-requires c = is-small c.class_to_read.ensures c.in-Small.is

pub convert_in-requires-in-Large : goal.convert_in-requires-in-Large
convert_in-requires-in-Large c = is-large c.class_to_read.ensures c.in-Large.is
