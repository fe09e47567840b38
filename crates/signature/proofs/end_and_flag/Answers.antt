-- `signature::end_and_flag` meets its contract.
use mathlib.Core.Path.{ap, ◌∙◌}
use native.Mathlib.Omega.{arith}
use Rattle.defs.specs.Lists.{bit}
use Rattle.signature.proofs.end_and_flag.Goals as goal

pub returns : goal.returns
unfolding bit
returns c = omega (arith, c.edge_to.ensures, c.from.ensures ∙ ap bit c.edge_is_ref.ensures)
