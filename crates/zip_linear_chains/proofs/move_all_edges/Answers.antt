-- `zip_linear_chains::move_all_edges` meets its contract.
use native.Mathlib.Omega.{arith}
use Rattle.zip_linear_chains.proofs.LoopLaws.{moving-all-end}
use Rattle.zip_linear_chains.proofs.move_all_edges.Goals as goal

pub returns : goal.returns
returns c = moving-all-end c.loop-e.invariant (omega arith)
