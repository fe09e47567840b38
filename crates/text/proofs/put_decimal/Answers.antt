-- `text::put_decimal` meets its contract.
use native.Mathlib.Omega.{arith}
use Rattle.text.proofs.TextLaws.{decimal-short, put-size}
use Rattle.text.proofs.put_decimal.Goals as goal

pub put_digits-requires : goal.put_digits-requires
put_digits-requires c = omega (arith, decimal-short {n = c.args.x} (omega arith))

pub returns : goal.returns
returns c = put-size (decimal-short (omega arith)) c.put_digits.ensures
