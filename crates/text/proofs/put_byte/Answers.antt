-- `text::put_byte` meets its contract.
use native.Mathlib.Omega.{arith}
use mathlib.Core.Path.{◌∙◌}
use lib.ListN.{length-set}
use Rattle.text.proofs.TextLaws.{letter-is, put-letter, put_other}
use Rattle.text.proofs.put_byte.Goals as goal

pub returns-then-is_ascii_alphabetic : goal.returns-then-is_ascii_alphabetic
returns-then-is_ascii_alphabetic c =
    put-letter _ c.if-is_ascii_alphabetic.true (c.is_ascii_alphabetic.ensures.value ∙ letter-is c.args.b)

pub bounds-text-at-3 : goal.bounds-text-at-3
bounds-text-at-3 c = simp length-set (omega arith)

pub bounds-text-at-4 : goal.bounds-text-at-4
bounds-text-at-4 c = simp length-set (omega arith)

pub bounds-text-at-5 : goal.bounds-text-at-5
bounds-text-at-5 c = simp length-set (omega arith)

pub returns : goal.returns
returns c =
    put_other _ c.if-is_ascii_alphabetic.false (c.is_ascii_alphabetic.ensures.value ∙ letter-is c.args.b) c.digit.ensures c.digit-2.ensures
