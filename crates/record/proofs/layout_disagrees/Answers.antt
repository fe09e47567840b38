-- `record::layout_disagrees` meets its contract.
use mathlib.Core.Path.{sym, ◌∙◌}
use native.Mathlib.Omega.{arith}
use Rattle.record.proofs.Fields.{header-long}
use Rattle.record.proofs.Tests.{offsets-wrong, lengths-inside, other-sum, kmer-lengths, free-lengths}
use borrow.Author.Rules.{rules}
use Rattle.record.proofs.layout_disagrees.Goals as goal

pub returns-then-offsets_disagree : goal.returns-then-offsets_disagree
returns-then-offsets_disagree c =
    offsets-wrong c.args.rec.now (sym c.offsets_disagree.ensures ∙ c.if-offsets_disagree.true)

pub total_length-requires : goal.total_length-requires
total_length-requires c =
    record {
      headed = c.requires.1;
      few = c.vertex_count-v.ensures.1;
      inside = lengths-inside c.args.rec.now
          (sym c.offsets_disagree.ensures ∙ c.if-offsets_disagree.false) c.vertex_count-v.ensures.0;
    }

pub returns-then-total_length-byte_count : goal.returns-then-total_length-byte_count
returns-then-total_length-byte_count c =
    other-sum
    c.args.rec.now
    (sym c.offsets_disagree.ensures ∙ c.if-offsets_disagree.false)
    c.total_length.ensures
    c.vertex_count-v.ensures.0
    c.byte_count.ensures.0
    c.if-total_length-byte_count.true

pub bounds-rec-4 : goal.bounds-rec-4
bounds-rec-4 c = omega (arith, header-long c.requires.1)

pub other_kmer_length-requires : goal.other_kmer_length-requires
other_kmer_length-requires c = (
  c.requires.0,
  record {
    headed = c.requires.1;
    few = c.vertex_count-v.ensures.1;
    inside = lengths-inside c.args.rec.now
        (sym c.offsets_disagree.ensures ∙ c.if-offsets_disagree.false)
        c.vertex_count-v.ensures.0;
  },
)

pub returns-then-rec-eq0 : goal.returns-then-rec-eq0
returns-then-rec-eq0 c =
    kmer-lengths
    c.args.rec.now
    (sym c.offsets_disagree.ensures ∙ c.if-offsets_disagree.false)
    c.total_length.ensures
    c.vertex_count-v.ensures.0
    c.byte_count.ensures.0
    c.if-total_length-byte_count.false
    c.if-rec-eq0.true
    c.other_kmer_length.ensures

pub returns : goal.returns
returns c =
    free-lengths
    c.args.rec.now
    (sym c.offsets_disagree.ensures ∙ c.if-offsets_disagree.false)
    c.total_length.ensures
    c.vertex_count-v.ensures.0
    c.byte_count.ensures.0
    c.if-total_length-byte_count.false
    c.if-rec-eq0.false
