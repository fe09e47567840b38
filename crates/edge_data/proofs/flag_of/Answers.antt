-- `edge_data::flag_of` meets its contract.
use borrow.Author.Rules.{rules}
use native.Mathlib.Omega.{arith}
use Rattle.laws.proofs.ListLaws.{bit-small}
use Rattle.edge_data.proofs.flag_of.Goals as goal

pub overflow_mul-result : goal.overflow_mul-result
overflow_mul-result c = omega (arith, c.new_flag-2.ensures, bit-small c.args.reference, bit-small c.args.capped)

pub overflow_add-result : goal.overflow_add-result
overflow_add-result c = omega (
  arith,
  c.new_flag.ensures,
  c.new_flag-2.ensures,
  bit-small c.args.reference,
  bit-small c.args.capped,
)
