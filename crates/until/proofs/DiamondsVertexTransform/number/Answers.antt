-- `until::DiamondsVertexTransform::number` meets its contract.
use mathlib.Core.Path.{refl}
use Rattle.defs.specs.Simplify.{rewrite_kind_number}
use Rattle.until.proofs.DiamondsVertexTransform.number.Goals as goal

pub returns : goal.returns
unfolding rewrite_kind_number
returns c = refl
