-- `text::surplus` meets its contract.
use native.Mathlib.Omega.{arith}
use Rattle.text.proofs.SignLaws.{sub-fits, difference}
use Rattle.text.proofs.surplus.Goals as goal

pub overflow_sub-result : goal.overflow_sub-result
overflow_sub-result c = sub-fits c.args.edges c.args.vertices (omega arith) (omega arith)

pub returns : goal.returns
returns c = difference c.args.edges c.args.vertices (omega arith) (omega arith)
