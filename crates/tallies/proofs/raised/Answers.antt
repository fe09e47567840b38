-- `tallies::raised` meets its contract.
use Rattle.tallies.proofs.RaisesLaws.{raises-none, raises-one}
use borrow.Author.Rules.{rules}
use Rattle.tallies.proofs.raised.Goals as goal

pub returns-then-caller-gt-LAST_CALLER : goal.returns-then-caller-gt-LAST_CALLER
returns-then-caller-gt-LAST_CALLER c = raises-none _ _ _ _ c.if-caller-gt-LAST_CALLER.true

pub returns : goal.returns
returns c =
    raises-one _ _ _ _ c.if-caller-gt-LAST_CALLER.false c.tallied-new.ensures
