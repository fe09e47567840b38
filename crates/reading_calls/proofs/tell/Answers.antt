-- `reading_calls::tell` meets its contract.
use mathlib.Core.Path.{refl}
use native.Mathlib.Omega.{arith}
use Rattle.reading_calls.proofs.BytesLaws.{tell_none, tell-short, tell-whole}
use borrow.Author.Rules.{rules}
use Rattle.reading_calls.proofs.tell.Goals as goal

pub returns-in_default : goal.returns-in_default
returns-in_default c = tell_none c.in_default.is c.from.ensures

pub returns-then-room-len : goal.returns-then-room-len
returns-then-room-len c = tell-short c.in-Some.is c.if-room-len.true c.from-then-room-len.ensures

pub overflow_cast-result : goal.overflow_cast-result
overflow_cast-result c = omega (arith, c.requires _ c.in-Some.is)

pub returns : goal.returns
returns c = tell-whole c.in-Some.is c.if-room-len.false refl
