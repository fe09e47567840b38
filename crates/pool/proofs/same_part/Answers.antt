-- `pool::same_part` meets its contract.
use mathlib.Core.Path.{◌∙◌, ap₂}
use Rattle.defs.specs.Lists.{same_list}
use Rattle.le.proofs.Parts.{pointwise-same}
use Rattle.pool.proofs.PoolLaws.{part-cut}
use Rattle.pool.proofs.same_part.Goals as goal

pub returns : goal.returns
returns c = c.eq.ensures ∙ pointwise-same _ _ ∙ ap₂ same_list (part-cut _ c.args.a c.args.n) (part-cut _ c.args.b c.args.n)
