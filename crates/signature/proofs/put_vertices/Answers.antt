-- `signature::put_vertices` meets its contract.
use native.Mathlib.Omega.{arith}
use Prim.Native.Nat.{◌<◌}
use Rattle.signature.proofs.SignLaws.{items-start, items-step, items-room, items-end}
use Rattle.signature.proofs.put_vertices.Goals as goal

pub loop-v-init : goal.loop-v-init
loop-v-init c = items-start

pub put_vertex-t-requires : goal.put_vertex-t-requires
put_vertex-t-requires c =
    let inside : c.loop-v.v < c.args.n = omega arith in
    (omega (arith, c.requires.0.vs-room, inside), (c.requires.0.within.at _ inside, items-room c.loop-v.invariant inside c.requires.1))

pub loop-v-preserved : goal.loop-v-preserved
loop-v-preserved c =
    items-step c.loop-v.invariant (omega arith) c.put_vertex-t.ensures c.put_vertex-t.auto.sig

pub returns : goal.returns
returns c = items-end c.loop-v.invariant (omega arith)
