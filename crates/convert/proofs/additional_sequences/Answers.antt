-- `convert::additional_sequences` meets its contract.
use native.Mathlib.Omega.{arith}
use Rattle.convert.proofs.TrimLaws.{trimming-start, trimming-kept, trimming-small, trimming-last, trimming-end}
use Rattle.convert.proofs.additional_sequences.Goals.{then-heads-v, else-heads-v}
use Rattle.convert.proofs.additional_sequences.Goals as goal

pub loop-v-init : goal.loop-v-init
loop-v-init c = trimming-start

pub overflow_sub-len : goal.overflow_sub-len
overflow_sub-len c =
    omega (
      arith,
      trimming-small c.requires.0 c.requires.1 c.loop-v.invariant c.loop-v-test.true
          c.start_number-start.ensures c.len_number-len.ensures,
    )

pub overflow_add-start : goal.overflow_add-start
overflow_add-start c =
    omega (
      arith,
      trimming-small c.requires.0 c.requires.1 c.loop-v.invariant c.loop-v-test.true
          c.start_number-start.ensures c.len_number-len.ensures,
    )

pub loop-v-preserved : goal.loop-v-preserved
loop-v-preserved c = elim c.if-heads-v.branch [
  | then-heads-v w ↦
      rw w.vs-is
      (trimming-last
      c.requires.0
      c.requires.1
      c.loop-v.invariant
      c.loop-v-test.true
      w.if-heads-v.true
      w.start_number-start.ensures
      w.len_number-len.ensures
      w.put_vertex.ensures)
  | else-heads-v w ↦ rw w.vs-is (trimming-kept c.requires.0 c.requires.1 c.loop-v.invariant c.loop-v-test.true w.if-heads-v.false)
]

pub returns : goal.returns
returns c = trimming-end c.requires.0 c.loop-v.invariant (omega arith)
