-- `split_tests::safe_to_split` meets its contract.
use mathlib.Core.Path.{sym, ◌∙◌}
use Rattle.split_tests.proofs.TestLaws.{split-few, split-branching, split-empty, split-eliminates, split-just, split_by}
use Rattle.split_tests.proofs.safe_to_split.Goals as goal
use Rattle.split_tests.proofs.safe_to_split.Goals.{
  then-c-lt2-via-then-c-lt2,
  then-c-lt2-via-else-c-lt2+then-not-all_one_out,
  then-s-eq0-via-then-s-eq0,
  then-s-eq0-via-else-s-eq0+then-would_eliminate_ref_source,
  then-s-eq0-via-else-s-eq0+else-would_eliminate_ref_source+then-all_long,
}

pub returns-then-c-lt2 : goal.returns-then-c-lt2
returns-then-c-lt2 c = elim c.then-c-lt2.branch [
  | then-c-lt2-via-then-c-lt2 w ↦ split-few c.requires w.if-c-lt2.true
  | then-c-lt2-via-else-c-lt2+then-not-all_one_out w ↦ split-branching c.requires (sym w.all_one_out.ensures ∙ w.if-not-all_one_out.true)
]

pub returns-then-s-eq0 : goal.returns-then-s-eq0
returns-then-s-eq0 c = elim c.then-s-eq0.branch [
  | then-s-eq0-via-then-s-eq0 w ↦ split-empty c.requires c.if-c-lt2.false c.shared_suffix-s.ensures w.if-s-eq0.true
  | then-s-eq0-via-else-s-eq0+then-would_eliminate_ref_source w ↦ split-eliminates c.requires c.if-c-lt2.false c.shared_suffix-s.ensures
      w.would_eliminate_ref_source.ensures w.if-would_eliminate_ref_source.true
  | then-s-eq0-via-else-s-eq0+else-would_eliminate_ref_source+then-all_long w ↦ split-just c.requires c.if-c-lt2.false c.shared_suffix-s.ensures
      w.would_eliminate_ref_source.ensures (sym w.all_long.ensures ∙ w.if-all_long.true)
]

pub returns : goal.returns
returns c =
    split_by
    c.requires
    c.if-c-lt2.false
    c.shared_suffix-s.ensures
    c.would_eliminate_ref_source.ensures
    c.if-s-eq0.false
    (sym c.all_one_out.ensures ∙ c.if-not-all_one_out.false)
    c.if-would_eliminate_ref_source.false
    (sym c.all_long.ensures ∙ c.if-all_long.false)
