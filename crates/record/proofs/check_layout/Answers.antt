-- `record::check_layout` meets its contract.
use mathlib.Core.Path.{sym, ◌∙◌}
use Rattle.kmer.proofs.SizeLaws.{refused-past, made-within, made-is}
use Rattle.record.specs.Kinds.{takes_of}
use Rattle.record.proofs.Tests.{
  headed,
  long-enough,
  k-past,
  count_past,
  offsets-agree,
  edges-inside,
  refusal-1,
  refusal-2,
  refusal-3,
  refusal-4,
  refusal-5,
  accepted,
}
use borrow.Author.Rules.{rules}
use Rattle.record.proofs.check_layout.Goals as goal

pub returns-then-other_length : goal.returns-then-other_length
returns-then-other_length c =
    refusal-1
    (takes_of c.args.takes)
    c.args.rec.now
    (sym c.other_length.ensures ∙ c.if-other_length.true)

pub wrong_mark-requires : goal.wrong_mark-requires
wrong_mark-requires c =
    headed
    c.args.rec.now
    c.form_of-form.ensures
    (sym c.other_length.ensures ∙ c.if-other_length.false)

pub returns-then-wrong_mark : goal.returns-then-wrong_mark
returns-then-wrong_mark c =
    refusal-2
    (takes_of c.args.takes)
    c.args.rec.now
    (sym c.other_length.ensures ∙ c.if-other_length.false)
    (sym c.wrong_mark.ensures ∙ c.if-wrong_mark.true)

pub kmer_size_of-requires : goal.kmer_size_of-requires
kmer_size_of-requires c =
    long-enough c.args.rec.now (sym c.other_length.ensures ∙ c.if-other_length.false)

pub returns-in_default : goal.returns-in_default
returns-in_default c =
    refusal-3
    (takes_of c.args.takes)
    c.args.rec.now
    (sym c.other_length.ensures ∙ c.if-other_length.false)
    (sym c.wrong_mark.ensures ∙ c.if-wrong_mark.false)
    (k-past c.args.rec.now
    (refused-past _ (sym c.kmer_size_of.ensures ∙ c.in_default.is)))

pub count_past_limit-requires : goal.count_past_limit-requires
count_past_limit-requires c =
    headed
    c.args.rec.now
    c.form_of-form.ensures
    (sym c.other_length.ensures ∙ c.if-other_length.false)

pub returns-then-count_past_limit : goal.returns-then-count_past_limit
returns-then-count_past_limit c =
    refusal-3
    (takes_of c.args.takes)
    c.args.rec.now
    (sym c.other_length.ensures ∙ c.if-other_length.false)
    (sym c.wrong_mark.ensures ∙ c.if-wrong_mark.false)
    (count_past c.args.rec.now
    (made-within _ (sym c.kmer_size_of.ensures ∙ c.in-Some.is))
    (sym c.count_past_limit.ensures ∙ c.if-count_past_limit.true))

pub layout_disagrees-requires : goal.layout_disagrees-requires
layout_disagrees-requires c = (
  made-is _ (sym c.kmer_size_of.ensures ∙ c.in-Some.is),
  headed c.args.rec.now c.form_of-form.ensures
      (sym c.other_length.ensures ∙ c.if-other_length.false),
)

pub returns-then-layout_disagrees : goal.returns-then-layout_disagrees
returns-then-layout_disagrees c =
    refusal-4
    (takes_of c.args.takes)
    c.args.rec.now
    (sym c.other_length.ensures ∙ c.if-other_length.false)
    (sym c.wrong_mark.ensures ∙ c.if-wrong_mark.false)
    (count_past c.args.rec.now
    (made-within _ (sym c.kmer_size_of.ensures ∙ c.in-Some.is))
    (sym c.count_past_limit.ensures ∙ c.if-count_past_limit.false))
    (sym c.layout_disagrees.ensures ∙ c.if-layout_disagrees.true)

pub any_bad_edge-requires : goal.any_bad_edge-requires
any_bad_edge-requires c =
    record {
      headed = headed c.args.rec.now c.form_of-form.ensures
          (sym c.other_length.ensures ∙ c.if-other_length.false);
      inside = edges-inside c.args.rec.now
          (offsets-agree c.args.rec.now (sym c.layout_disagrees.ensures ∙ c.if-layout_disagrees.false));
    }

pub returns-then-any_bad_edge : goal.returns-then-any_bad_edge
returns-then-any_bad_edge c =
    refusal-5
    (takes_of c.args.takes)
    c.args.rec.now
    (sym c.other_length.ensures ∙ c.if-other_length.false)
    (sym c.wrong_mark.ensures ∙ c.if-wrong_mark.false)
    (count_past c.args.rec.now
    (made-within _ (sym c.kmer_size_of.ensures ∙ c.in-Some.is))
    (sym c.count_past_limit.ensures ∙ c.if-count_past_limit.false))
    (sym c.layout_disagrees.ensures ∙ c.if-layout_disagrees.false)
    (sym c.any_bad_edge.ensures ∙ c.if-any_bad_edge.true)

pub returns : goal.returns
returns c =
    accepted
    (takes_of c.args.takes)
    c.args.rec.now
    (sym c.other_length.ensures ∙ c.if-other_length.false)
    (sym c.wrong_mark.ensures ∙ c.if-wrong_mark.false)
    (count_past c.args.rec.now
    (made-within _ (sym c.kmer_size_of.ensures ∙ c.in-Some.is))
    (sym c.count_past_limit.ensures ∙ c.if-count_past_limit.false))
    (sym c.layout_disagrees.ensures ∙ c.if-layout_disagrees.false)
    (made-is _ (sym c.kmer_size_of.ensures ∙ c.in-Some.is))
    (sym c.any_bad_edge.ensures ∙ c.if-any_bad_edge.false)
