-- `until::first_at` meets its contract.
use native.Mathlib.Omega.{arith}
use Rattle.until.proofs.UntilLaws.{scanning-more, scanning-found, scanning-none, scan-left}
use Rattle.until.proofs.first_at.Goals as goal

pub returns-in-Some : goal.returns-in-Some
returns-in-Some g c = rw (← c.in-Some.is)
    (scanning-found c.loop-v.invariant (omega arith)
    (scan-left g.T.Transform.kind c.args.least c.args.held c.loop-v.invariant c.try_at.ensures)
    c.in-Some.is)

pub loop-v-preserved : goal.loop-v-preserved
loop-v-preserved g c =
    scanning-more
    c.loop-v.invariant
    (omega arith)
    (scan-left g.T.Transform.kind c.args.least c.args.held c.loop-v.invariant c.try_at.ensures)
    c.in_default.is
    c.try_at.auto.nodes
    c.try_at.auto.map

pub returns : goal.returns
returns g c = scanning-none c.loop-v.invariant (omega arith) _ _
