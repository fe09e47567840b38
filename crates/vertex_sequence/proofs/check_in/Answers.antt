-- `vertex_sequence::check_in` meets its contract.
use Rattle.arrays.proofs.SizedLaws.{room-to-mark}
use borrow.Author.Rules.{rules}
use Rattle.vertex_sequence.proofs.check_in.Goals as goal

pub check_lent-requires : goal.check_lent-requires
check_lent-requires g c = room-to-mark c.requires.few (search rules)
