-- `convert::put_places` meets its contract.
use native.Mathlib.Omega.{arith}
use Rattle.convert.proofs.CopyLaws.{placing-start, placing-more, placing-end}
use Rattle.convert.proofs.put_places.Goals as goal

pub loop-i-init : goal.loop-i-init
loop-i-init c = placing-start

pub loop-i-preserved : goal.loop-i-preserved
loop-i-preserved c =
    placing-more c.requires.0 c.loop-i.invariant c.requires.1.0 c.loop-i-test.true

pub returns : goal.returns
returns c = placing-end c.requires.0 c.loop-i.invariant (omega arith)
