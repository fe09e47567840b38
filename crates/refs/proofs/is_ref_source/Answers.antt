-- `refs::is_ref_source` meets its contract.
use native.Mathlib.Omega.{arith}
use mathlib.Core.Path.{sym, ◌∙◌}
use Rattle.refs.proofs.RefLaws.{source-single, source-entered, source-left}
use borrow.Author.Rules.{rules}
use Rattle.refs.proofs.is_ref_source.Goals as goal

pub returns-then-n-eq1 : goal.returns-then-n-eq1
returns-then-n-eq1 c = source-single _ _ _ _ c.if-n-eq1.true

pub returns-then-any_ref : goal.returns-then-any_ref
returns-then-any_ref c =
    source-entered _ _ _ _ c.if-n-eq1.false (sym c.any_ref.ensures ∙ c.if-any_ref.true)

pub returns : goal.returns
returns c =
    source-left _ _ _ _ _
    c.if-n-eq1.false
    (sym c.any_ref.ensures ∙ c.if-any_ref.false)
    c.any_ref-2.ensures
