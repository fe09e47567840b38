-- `edge_data::joined` meets its contract.
use borrow.Author.Rules.{rules}
use native.Mathlib.Omega.{arith}
use mathlib.Core.Path.{ap, ◌∙◌}
use mathlib.Core.Bool.{◌||◌}
use Prim.Native.Nat.{◌-◌}
use lib.Dec.{ltb}
use Rattle.edge_data.specs.declared.Carried.{Carried}
use Rattle.edge_data.proofs.JoinLaws.{joined_is}
use Rattle.edge_data.proofs.joined.Goals as goal

pub returns : goal.returns
returns c = joined_is a.support a.flag b.support b.flag _ _ _ _ (omega arith) c.saturating_add.ensures c.flag_of-flag.ensures
    (λ i. c.flag_is_ref.ensures i || c.flag_is_ref-2.ensures i)
    (ap (λ x. x || ltb (4294967295 - a.support) b.support) (λ i. c.flag_is_capped.ensures i || c.flag_is_capped-2.ensures i))
  where
    a : Carried
    a = c.args.a

    b : Carried
    b = c.args.b
