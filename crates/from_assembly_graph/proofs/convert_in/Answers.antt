-- `from_assembly_graph::convert_in` meets its contract.
use Rattle.from_assembly_graph.proofs.ConvertsLaws.{room-to-convert}
use borrow.Author.Rules.{rules}
use Rattle.from_assembly_graph.proofs.convert_in.Goals as goal

pub convert_lent-requires : goal.convert_lent-requires
convert_lent-requires g c = room-to-convert c.requires.few c.requires.more_edges (search rules)
