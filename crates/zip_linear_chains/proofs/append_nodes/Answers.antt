-- `zip_linear_chains::append_nodes` meets its contract.
use native.Mathlib.Omega.{arith}
use Rattle.zip_linear_chains.proofs.LoopLaws.{appended}
use Rattle.zip_linear_chains.proofs.append_nodes.Goals as goal

pub returns : goal.returns
returns c = appended _ _ _ _ _ _ (omega arith) (omega arith) c.copy.ensures
