-- `sequence::sequence_part` meets its contract.
use native.Mathlib.Omega.{arith}
use Prim.Native.Nat.{◌+◌}
use mathlib.Core.Path.{ap}
use Rattle.record.proofs.Sequences.{sequence-inside, formed-length}
use Rattle.sequence.proofs.Starts.{part-is}
use borrow.Author.Rules.{rules}
use Rattle.sequence.proofs.sequence_part.Goals as goal

pub length_at-requires : goal.length_at-requires
length_at-requires c =
    formed-length c.requires.0 c.form_of.ensures c.args.v c.requires.1

pub overflow_add-end : goal.overflow_add-end
overflow_add-end c =
    omega (
      arith,
      sequence-inside c.args.rec.now c.args.v c.requires.1 c.requires.0,
      c.sequence_start-start.ensures,
      c.length_at.ensures.0,
    )

pub slice_bounds-result-end : goal.slice_bounds-result-end
slice_bounds-result-end c =
    omega (
      arith,
      sequence-inside c.args.rec.now c.args.v c.requires.1 c.requires.0,
      c.sequence_start-start.ensures,
      c.length_at.ensures.0,
    )

pub returns : goal.returns
returns c =
    part-is
    c.args.rec.now
    c.args.v
    c.sequence_start-start.result
    (c.sequence_start-start.result + c.length_at.result)
    c.sequence_start-start.ensures
    (ap (λ n. c.sequence_start-start.result + n) c.length_at.ensures.0)
    c.requires.1
