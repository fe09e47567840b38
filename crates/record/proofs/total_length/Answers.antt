-- `record::total_length` meets its contract.
use Prim.Native.Nat.{◌+◌, ◌-◌, ◌*◌, ◌≤◌}
use mathlib.Core.Path.{◌≡◌}
use Rattle.defs.specs.Lists.{tab, tab_from, sum}
use Rattle.defs.specs.Record.{length_at}
use Rattle.record.proofs.Fields.{length-inside}
use Rattle.record.proofs.TurnLaws.{sum-start, sum-turn, sum-spent}
use native.Mathlib.Omega.{arith}
use Rattle.record.proofs.total_length.Goals as goal

pub length_at-total-requires : goal.length_at-total-requires
length_at-total-requires c =
    length-inside c.requires c.loop-i.i c.loop-i-test.true

pub loop-i-preserved : goal.loop-i-preserved
loop-i-preserved c = (
  omega arith,
  omega (
    arith,
    sum-turn (length_at c.args.rec.now) c.loop-i.i c.args.v c.loop-i-test.true,
  ),
  omega arith,
)

pub returns : goal.returns
returns c =
    omega (arith, sum-spent (length_at c.args.rec.now) c.loop-i.i c.args.v c.loop-i-test.false)
