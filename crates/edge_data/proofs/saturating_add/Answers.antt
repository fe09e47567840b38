-- `edge_data::saturating_add` meets its contract.
use native.Mathlib.Omega.{arith}
use Rattle.defs.specs.SeqGraph.{saturating_add}
use Rattle.edge_data.proofs.saturating_add.Goals as goal

pub returns : goal.returns
unfolding saturating_add
returns c = omega arith
