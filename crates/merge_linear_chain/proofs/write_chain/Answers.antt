-- `merge_linear_chain::write_chain` meets its contract.
use native.Mathlib.Omega.{arith}
use Prim.Native.Nat.{◌<◌}
use lib.Seq.{get_or-take, length-take-le}
use Rattle.merge_linear_chain.proofs.WriteLaws.{
  writable_then,
  writing_start,
  next-copyable,
  writing_more,
  writing-end,
}
use Rattle.merge_linear_chain.proofs.write_chain.Goals as goal

pub loop-v-init : goal.loop-v-init
loop-v-init c =
    writing_start
    c.requires
    c.append_sequence-at.ensures
    c.append_sequence-at.auto.p

pub append_sequence-at-requires-in-loop-v : goal.append_sequence-at-requires-in-loop-v
append_sequence-at-requires-in-loop-v c =
    let h : c.loop-v.v-index < c.args.c = omega (arith, length-take-le c.args.c c.args.nodes.now (omega arith)) in
    rw (get_or-take c.args.c c.args.nodes.now c.loop-v.v-index 0 h)
    (next-copyable
    (writable_then c.requires c.append_sequence-at.ensures
    c.append_sequence-at.auto.p)
    c.loop-v.invariant
    h)

pub loop-v-preserved : goal.loop-v-preserved
loop-v-preserved c =
    let h : c.loop-v.v-index < c.args.c = omega (arith, length-take-le c.args.c c.args.nodes.now (omega arith)) in
    writing_more
    (writable_then c.requires c.append_sequence-at.ensures
    c.append_sequence-at.auto.p)
    c.loop-v.invariant
    h
    (rw (get_or-take c.args.c c.args.nodes.now c.loop-v.v-index 0 h) at c.append_sequence-at-in-loop-v.ensures)
    c.append_sequence-at-in-loop-v.auto.p

pub returns : goal.returns
returns c =
    writing-end
    c.requires
    c.append_sequence-at.ensures
    c.append_sequence-at.auto.p
    c.loop-v.invariant
    (omega (arith, length-take-le c.args.c c.args.nodes.now (omega arith)))
