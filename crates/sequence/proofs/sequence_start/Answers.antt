-- `sequence::sequence_start` meets its contract.
use Prim.Native.Nat.{◌-◌}
use Rattle.record.proofs.Fields.{bytes-at-read}
use Rattle.record.proofs.Sequences.{sequence-inside, formed-headed, formed-length}
use Rattle.sequence.proofs.Starts.{AddingLengths, adding-start, adding-more, adding-fits, adding-end}
use native.Mathlib.Omega.{arith}
use borrow.Author.Rules.{rules}
use Rattle.sequence.proofs.sequence_start.Goals as goal

pub vertex_count-requires : goal.vertex_count-requires
vertex_count-requires c =
    formed-headed c.requires.0 c.form_of-form.ensures

pub edge_count-requires : goal.edge_count-requires
edge_count-requires c =
    formed-headed c.requires.0 c.form_of-form.ensures

pub bytes_at-at-requires : goal.bytes_at-at-requires
bytes_at-at-requires c = (omega (arith, c.vertex_count.ensures.1), omega (arith, c.edge_count.ensures.1))

pub loop-i-init : goal.loop-i-init
loop-i-init c =
    adding-start
    c.args.rec.now
    c.args.v
    (bytes-at-read _ _ c.form_of-form.ensures c.bytes_at-at.ensures c.vertex_count.ensures.0
    c.edge_count.ensures.0)

pub length_at-at-requires : goal.length_at-at-requires
length_at-at-requires c = formed-length c.requires.0 c.form_of-form.ensures c.loop-i.i (omega (arith, c.requires.1))

pub overflow_add-at : goal.overflow_add-at
overflow_add-at c =
    omega (
      arith,
      adding-fits c.args.rec.now c.args.v c.loop-i.i c.loop-i.at
          c.length_at-at.result c.loop-i-test.true c.length_at-at.ensures.0 c.loop-i.invariant,
      sequence-inside c.args.rec.now c.args.v c.requires.1 c.requires.0,
    )

pub loop-i-preserved : goal.loop-i-preserved
loop-i-preserved c =
    adding-more
    c.args.rec.now
    c.args.v
    c.loop-i.i
    c.loop-i.at
    c.length_at-at.result
    c.loop-i-test.true
    c.length_at-at.ensures.0
    c.loop-i.invariant

pub returns : goal.returns
returns c =
    adding-end
    c.args.rec.now
    c.args.v
    c.loop-i.i
    c.loop-i.at
    c.loop-i-test.false
    c.loop-i.invariant
