-- `signature::put_edges` meets its contract.
use native.Mathlib.Omega.{arith}
use Prim.Native.Nat.{◌<◌}
use Rattle.signature.proofs.SignLaws.{items-start, items-step, items-room, items-end}
use Rattle.signature.proofs.put_edges.Goals as goal

pub loop-i-init : goal.loop-i-init
loop-i-init c = items-start

pub put_edge-t-requires : goal.put_edge-t-requires
put_edge-t-requires c =
    let inside : c.loop-i.i < c.args.m = omega arith in
    (omega (arith, c.requires.0.es-room, inside), (c.requires.0.small _ inside, items-room c.loop-i.invariant inside c.requires.1))

pub loop-i-preserved : goal.loop-i-preserved
loop-i-preserved c =
    items-step c.loop-i.invariant (omega arith) c.put_edge-t.ensures c.put_edge-t.auto.sig

pub returns : goal.returns
returns c = items-end c.loop-i.invariant (omega arith)
