-- `tallies::tallied` meets its contract.
use mathlib.Core.Path.{refl}
use Rattle.tallies.proofs.RaisesLaws.{tallies-refused, tallies-answered}
use borrow.Author.Rules.{rules}
use Rattle.tallies.proofs.tallied.Goals as goal

pub returns-then-number-ne0 : goal.returns-then-number-ne0
returns-then-number-ne0 c =
    tallies-refused c.if-number-ne0.true refl c.saturating_add.ensures refl

pub returns : goal.returns
returns c =
    tallies-answered c.if-number-ne0.false c.saturating_add-2.ensures refl c.saturating_add-3.ensures
