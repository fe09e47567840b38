-- `show::put_answer` meets its contract.
use native.Mathlib.Omega.{arith}
use lib.Seq.{length-take-le}
use mathlib.Core.Path.{sym}
use Rattle.show.proofs.ShowLaws.{answer-refused, answer-put}
use Rattle.show.proofs.put_answer.Goals as goal

pub returns-then-made-ne0 : goal.returns-then-made-ne0
returns-then-made-ne0 c =
    answer-refused c.if-made-ne0.true c.put_refusal.ensures

pub slice_bounds-put_record-end : goal.slice_bounds-put_record-end
slice_bounds-put_record-end c = sym (length-take-le _ _ c.requires.0.inside)

pub put_record-requires : goal.put_record-requires
put_record-requires c = (c.requires.0.recorded (omega (arith, c.if-made-ne0.false)), c.requires.1)

pub returns : goal.returns
returns c = answer-put (omega (arith, c.if-made-ne0.false)) c.put_record.ensures
