-- `pool::gather` meets its contract.
use native.Mathlib.Omega.{arith}
use Prim.Native.Nat.{◌-◌}
use Rattle.pool.proofs.PoolLaws.{
  Gathering,
  gathering-start,
  gathering-apart,
  gathering-more,
  gathering-end,
  bytes_below,
}
use Rattle.pool.proofs.gather.Goals as goal

pub loop-v-init : goal.loop-v-init
loop-v-init c = gathering-start c.requires

pub overflow_add-base : goal.overflow_add-base
overflow_add-base c =
    omega (
      arith,
      c.requires.room,
      c.loop-v.invariant.used-is,
      bytes_below _ _ c.args.vs.now c.loop-v-test.true,
    )

pub copy_within-requires : goal.copy_within-requires
copy_within-requires c =
    gathering-apart
    c.requires
    c.loop-v.invariant
    c.loop-v-test.true
    c.start_number-start.ensures
    c.len_number-len.ensures

pub overflow_cast-used : goal.overflow_cast-used
overflow_cast-used c =
    omega (
      arith,
      c.requires.small,
      c.requires.front,
      c.loop-v.invariant.used-is,
      bytes_below _ _ c.args.vs.now c.loop-v-test.true,
    )

pub overflow_add-used : goal.overflow_add-used
overflow_add-used c =
    omega (
      arith,
      c.requires.room,
      c.loop-v.invariant.used-is,
      c.loop-v.invariant.sizes c.loop-v.v,
      bytes_below _ _ c.args.vs.now c.loop-v-test.true,
    )

pub loop-v-preserved : goal.loop-v-preserved
loop-v-preserved c =
    gathering-more
    c.requires
    c.loop-v.invariant
    c.loop-v-test.true
    c.start_number-start.ensures
    c.len_number-len.ensures
    c.copy_within.ensures
    c.copy_within.auto.p
    c.put_start.ensures
