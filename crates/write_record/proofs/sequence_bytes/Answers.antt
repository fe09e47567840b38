-- `write_record::sequence_bytes` meets its contract.
use native.Mathlib.Omega.{arith}
use Prim.Native.Nat.{ℕ, ◌-◌, ◌≤◌}
use mathlib.Core.Path.{◌≡◌, sym, ap, ◌∙◌}
use Rattle.pool.specs.Pool.{bytes_in}
use Rattle.pool.proofs.PoolLaws.{bytes_in-none, bytes_in-more, bytes_below}
use Rattle.write_record.proofs.sequence_bytes.Goals as goal

pub loop-v-init : goal.loop-v-init
loop-v-init c = (omega arith, sym (bytes_in-none c.args.vs.now))

pub overflow_add-total : goal.overflow_add-total
overflow_add-total c =
    omega
    (arith, bytes_below c.args.n c.loop-v.v c.args.vs.now c.loop-v-test.true)

pub loop-v-preserved : goal.loop-v-preserved
loop-v-preserved c = (omega arith, omega (arith, bytes_in-more c.loop-v.v c.args.vs.now))
