-- `text::put_digits` meets its contract: it calls itself with a smaller number.
use native.Mathlib.Omega.{arith}
use mathlib.Core.Path.{ap}
use lib.ListN.{length}
use Rattle.text.proofs.TextLaws.{decimal-one, digits-one, falls-to, more-long, digits-behind, digits_more}
use Rattle.text.proofs.+put_digits.Goals as goal

pub bounds-text-at : goal.bounds-text-at
bounds-text-at t c = omega (arith, ap length (decimal-one c.args.x c.if-x-lt10.true), c.requires)

pub returns-then-x-lt10 : goal.returns-then-x-lt10
returns-then-x-lt10 t c = digits-one c.if-x-lt10.true c.digit.ensures

pub put_digits-last-requires : goal.put_digits-last-requires
put_digits-last-requires t c = (falls-to c.decreases c.if-x-lt10.false, omega (arith, more-long c.args.x c.if-x-lt10.false, c.requires))

pub bounds-text-last : goal.bounds-text-last
bounds-text-last t c =
    omega (arith, digits-behind c.if-x-lt10.false c.requires c.put_digits-last.ensures, c.put_digits-last.auto.text)

pub overflow_add-result-2 : goal.overflow_add-result-2
overflow_add-result-2 t c =
    omega (arith, digits-behind c.if-x-lt10.false c.requires c.put_digits-last.ensures, c.put_digits-last.auto.text)

pub returns : goal.returns
returns t c = digits_more c.if-x-lt10.false c.put_digits-last.ensures c.digit-2.ensures
