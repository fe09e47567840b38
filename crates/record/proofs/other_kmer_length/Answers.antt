-- `record::other_kmer_length` meets its contract.
use Prim.Native.Nat.{◌-◌, ◌≤◌}
use mathlib.Core.Path.{◌≡◌, sym, ◌∙◌}
use Rattle.defs.specs.Lists.{any_of, up_from}
use Rattle.record.specs.Layout.{other_kmer_length}
use Rattle.record.proofs.Fields.{length-inside}
use Rattle.record.proofs.TurnLaws.{any-start, any-turn, any_found, any_none}
use Rattle.record.proofs.Tests.{length-other, length-k}
use native.Mathlib.Omega.{arith}
use borrow.Author.Rules.{rules}
use Rattle.record.proofs.other_kmer_length.Goals as goal

pub length_at-requires : goal.length_at-requires
length_at-requires c =
    length-inside c.requires.1 c.loop-i.i c.loop-i-test.true

pub returns-then-length_at-size : goal.returns-then-length_at-size
returns-then-length_at-size c =
    sym
    (any_found (other_kmer_length c.args.rec.now) c.loop-i.i c.args.v
    c.loop-i-test.true
    (length-other c.args.rec.now c.loop-i.i c.length_at.result
    c.value-size.result c.length_at.ensures.0 (c.value-size.ensures ∙ c.requires.0)
    c.if-length_at-size.true)) ∙ c.loop-i.invariant.1

pub loop-i-preserved : goal.loop-i-preserved
loop-i-preserved c = (
  omega arith,
  sym (any-turn (other_kmer_length c.args.rec.now) c.loop-i.i c.args.v
      c.loop-i-test.true
      (length-k c.args.rec.now c.loop-i.i c.length_at.result c.value-size.result
      c.length_at.ensures.0 (c.value-size.ensures ∙ c.requires.0) c.if-length_at-size.false))
      ∙ c.loop-i.invariant.1,
)

pub returns : goal.returns
returns c =
    sym (any_none (other_kmer_length c.args.rec.now) c.loop-i.i c.args.v c.loop-i-test.false)
    ∙ c.loop-i.invariant.1
