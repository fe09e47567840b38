-- `refs::is_reference_node` meets its contract.
use native.Mathlib.Omega.{arith}
use mathlib.Core.Path.{sym, ◌∙◌}
use Rattle.refs.proofs.RefLaws.{node-out, node_in}
use borrow.Author.Rules.{rules}
use Rattle.refs.proofs.is_reference_node.Goals as goal

pub returns-then-any_ref : goal.returns-then-any_ref
returns-then-any_ref c =
    node-out _ _ _ _ (sym c.any_ref.ensures ∙ c.if-any_ref.true)

pub returns : goal.returns
returns c =
    node_in _ _ _ _ _ (sym c.any_ref.ensures ∙ c.if-any_ref.false) c.any_ref-2.ensures
