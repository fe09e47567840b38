-- `rewriting_calls::by_class` meets its contract.
use mathlib.Core.Path.{refl, sym, ◌∙◌}
use native.Mathlib.Omega.{arith}
use Rattle.form.proofs.FormLaws.{is-1, is-2}
use Rattle.arrays.proofs.SizedLaws.{all-to-rewrite, first-to-rewrite, short-to-rewrite, counted-to-rewrite, both-class, second-class}
use Rattle.arrays.proofs.SizedLaws.{long-headed, counts-read}
use Rattle.rewriting_calls.proofs.AnsweredLaws.{counted-class}
use Rattle.arrays.specs.Sized.{FewToRewrite}
use borrow.Author.Rules.{rules}
use borrow.Author.Tests.{leb-true, ltb-true}
use Rattle.rewriting_calls.proofs.by_class.Goals as goal
use Rattle.rewriting_calls.proofs.by_class.Goals.{then-rec-le-HUGE_RECORD, else-rec-le-HUGE_RECORD+then-weight-lt-HUGE_VERTICES, else-rec-le-HUGE_RECORD+else-weight-lt-HUGE_VERTICES}

pub answer_in-requires : goal.answer_in-requires
answer_in-requires c = (both-class (short-to-rewrite _ 1024 1280 c.if-rec-le-SMALL_RECORD.true (omega arith)) (omega arith) (omega arith), refl)

pub byte_count-bytes-requires : goal.byte_count-bytes-requires
byte_count-bytes-requires c = long-headed _ c.form_of-form.ensures c.if-rec-le-SMALL_RECORD.false

pub vertex_count-requires : goal.vertex_count-requires
vertex_count-requires c = long-headed _ c.form_of-form.ensures c.if-rec-le-SMALL_RECORD.false

pub overflow_add-weight : goal.overflow_add-weight
overflow_add-weight c = omega (arith, c.vertex_count.ensures.1, c.byte_count-bytes.ensures.1)

pub edge_count-requires : goal.edge_count-requires
edge_count-requires c = long-headed _ c.form_of-form.ensures c.if-rec-le-SMALL_RECORD.false

pub overflow_add-surplus : goal.overflow_add-surplus
overflow_add-surplus c = omega (arith, c.edge_count.ensures.1, c.byte_count-bytes.ensures.1)

pub answer_in-requires-then-surplus : goal.answer_in-requires-then-surplus
answer_in-requires-then-surplus c =
    (counted-class _ c.vertex_count.ensures.0 c.edge_count.ensures.0 c.byte_count-bytes.ensures.0 (search rules) (search rules) (omega arith), refl)

pub answer_in-requires-then-surplus-2 : goal.answer_in-requires-then-surplus-2
answer_in-requires-then-surplus-2 c =
    (counted-class _ c.vertex_count.ensures.0 c.edge_count.ensures.0 c.byte_count-bytes.ensures.0 (search rules) (search rules) (omega arith), refl)

pub answer_in-requires-then-surplus-3 : goal.answer_in-requires-then-surplus-3
answer_in-requires-then-surplus-3 c =
    (counted-class _ c.vertex_count.ensures.0 c.edge_count.ensures.0 c.byte_count-bytes.ensures.0 (search rules) (search rules) (omega arith), refl)

pub answer_in-requires-in-Sgr1 : goal.answer_in-requires-in-Sgr1
answer_in-requires-in-Sgr1 c =
    (both-class (first-to-rewrite _ (sym c.form_of-form.ensures ∙ is-1 _ c.in-Sgr1.is)) (omega arith) (omega arith), refl)

pub answer_in-requires-in-Sgr2-2 : goal.answer_in-requires-in-Sgr2-2
answer_in-requires-in-Sgr2-2 c =
    (second-class (all-to-rewrite _) (omega arith) (sym c.form_of-form.ensures ∙ is-2 _ c.in-Sgr2.is) (omega arith) (omega arith), refl)

pub answer_in-requires-in-Sgr2 : goal.answer_in-requires-in-Sgr2
answer_in-requires-in-Sgr2 c =
    let second = sym c.form_of-form.ensures ∙ is-2 _ c.in-Sgr2.is in
    let few : FewToRewrite 65536 81920 c.args.rec.now = elim c.if-rec-le-HUGE_RECORD.branch [
      | then-rec-le-HUGE_RECORD w ↦ short-to-rewrite _ 65536 81920 w.if-rec-le-HUGE_RECORD.true (omega arith)
      | else-rec-le-HUGE_RECORD+then-weight-lt-HUGE_VERTICES w ↦ counted-to-rewrite _
          (counts-read _ c.vertex_count.ensures.0 c.edge_count.ensures.0 c.byte_count-bytes.ensures.0) w.if-weight-lt-HUGE_VERTICES.true
          (omega (arith, leb-true _ _ (sym w.value-is ∙ c.if-surplus-4.true)))
      | else-rec-le-HUGE_RECORD+else-weight-lt-HUGE_VERTICES w ↦
          absurd (omega (arith, w.if-weight-lt-HUGE_VERTICES.false, ltb-true _ _ (sym w.value-is ∙ c.if-surplus-4.true)))
    ] in
    (second-class few (omega arith) second (omega arith) (omega arith), refl)
