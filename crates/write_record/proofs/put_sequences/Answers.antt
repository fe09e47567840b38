-- `write_record::put_sequences` meets its contract.
use native.Mathlib.Omega.{arith}
use Prim.Native.Nat.{◌+◌, ◌-◌}
use mathlib.Core.Path.{◌≡◌, sym, ◌∙◌}
use mathlib.Core.List.{◌++◌}
use Rattle.store.specs.Store.{part, seq_in}
use Rattle.pool.specs.Pool.{bytes_in}
use Rattle.pool.proofs.PoolLaws.{bytes_in-none, bytes_in-more, bytes_below}
use Rattle.tabs.proofs.SumTabs.{fields, fields-none, fields-more}
use Rattle.write_record.proofs.WriteLaws.{
  Growing,
  growing-start,
  growing-len,
  growing-more,
  growing-end,
  seqs-before,
}
use Rattle.write_record.proofs.put_sequences.Goals as goal

pub loop-v-init : goal.loop-v-init
loop-v-init c = (
  omega (arith, bytes_in-none c.args.vs.now),
  growing-start (fields-none (seq_in c.args.vs.now c.args.p.now)),
)

pub put_sequence-requires : goal.put_sequence-requires
put_sequence-requires c = (
  omega (
    arith,
    c.requires.room,
    c.loop-v.invariant.0,
    growing-len c.loop-v.invariant.1,
    bytes_below c.args.n c.loop-v.v c.args.vs.now c.loop-v-test.true,
  ),
  omega (arith, c.requires.within.at c.loop-v.v c.loop-v-test.true),
)

pub overflow_add-to : goal.overflow_add-to
overflow_add-to c =
    omega (
      arith,
      c.requires.room,
      c.loop-v.invariant.0,
      bytes_below c.args.n c.loop-v.v c.args.vs.now c.loop-v-test.true,
    )

pub loop-v-preserved : goal.loop-v-preserved
loop-v-preserved c = (
  omega (arith, c.loop-v.invariant.0, bytes_in-more c.loop-v.v c.args.vs.now),
  growing-more _ _ c.loop-v.invariant.1 c.loop-v-test.true
      (fields-more (seq_in c.args.vs.now c.args.p.now) c.loop-v.v
      ∙ (λ i. fields (seq_in c.args.vs.now c.args.p.now) c.loop-v.v
      ++ part c.args.p.now (sym c.start_number-start.ensures i)
      (sym c.len_number-len.ensures i)))
      (omega (
        arith,
        c.loop-v.invariant.0,
        seqs-before c.args.vs.now c.args.p.now c.loop-v.v c.requires.within
            c.loop-v.invariant.1.high,
      )) c.put_sequence.ensures,
)
