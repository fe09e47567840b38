-- `split_and_update::push_rest` meets its contract.
use native.Mathlib.Omega.{arith}
use mathlib.Core.Path.{subst}
use Prim.Native.Nat.{ℕ, ◌+◌}
use Rattle.store.specs.Store.{part}
use Rattle.split_and_update.specs.Pushed.{PartPushed}
use Rattle.split_and_update.proofs.push_rest.Goals as goal

pub returns : goal.returns
returns c =
    subst
    (λ (n : ℕ). PartPushed c.args.k c.args.vs.now (c.args.start + c.args.x) (part c.args.p.now (c.args.start + c.args.x) n) c.push_part.result c.push_part.new.vs)
    (omega arith)
    c.push_part.ensures
