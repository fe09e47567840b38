-- `text::put_each` meets its contract.
use native.Mathlib.Omega.{arith}
use Rattle.text.proofs.TextLaws.{lines_start, lines_more, lines_end, lines_long, lines_at, put_as, each-is}
use Rattle.text.proofs.put_each.Goals as goal

pub loop-b-init : goal.loop-b-init
loop-b-init c = lines_start

pub put_byte-to-requires : goal.put_byte-to-requires
put_byte-to-requires c = omega (arith, lines_at c.loop-b.invariant, lines_long c.loop-b.invariant)

pub loop-b-preserved : goal.loop-b-preserved
loop-b-preserved c =
    lines_more c.loop-b.invariant c.loop-b-test.true c.put_byte-to.ensures (omega arith)

pub returns : goal.returns
returns c =
    put_as (each-is c.args.s.now) (lines_end c.loop-b.invariant c.loop-b-test.false)
