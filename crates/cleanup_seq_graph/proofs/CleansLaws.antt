-- The promise of cleanup_seq_graph: the answer and the output are the definition's, and of these the rest is known by laws. Assumes nothing.
use mathlib.Core.Path.{◌≡◌, refl, sym, ap, ◌∙◌, subst}
use mathlib.Core.List.{List, ◌∷◌}
use Prim.Native.Nat.{ℕ}
use native.Mathlib.Omega.{arith}
use lib.ListN.{length, take}
use Rattle.defs.specs.Cleanup.{Status, just_reference, some_variation, Cleaned, status_number, choice_graph, cleanup_seq_graph}
use Rattle.defs.specs.Forms.{form_of}
use Rattle.defs.specs.Record.{decode}
use Rattle.defs.specs.Refusals.{Cause, refusal_of, sequence_only, record_causes, record_refusal}
use Rattle.defs.specs.Calls as D
use Rattle.defs.specs.Calls.{number_of, field_of, caller_cause, cleanup_seq_graph_causes, cleanup_seq_graph_response, cleanup_seq_graph_answer}
use Rattle.calls.specs.Sending.{with_output}
use Rattle.laws.proofs.Cleaned.{cleanup-varies, cleanup-plain}
use Rattle.sound.proofs.Accepted.{accepted-good}
use Rattle.reread.specs.Reread.{answer_length, RereadAs}
use Rattle.reread.proofs.Read.{Bytes}
use Rattle.reread.proofs.Answers.{cleanup-reread}
use Rattle.calls.specs.Answers.{cleanup_answer_of, AnswersCleanup}
use Rattle.calls.specs.declared.CountedCleanup.{CountedCleanup}
use Rattle.calls.proofs.ResponseLaws.{answered-holds, room-enough, field-answered}
use Rattle.calls.proofs.CallerLaws.{caller-record-none, caller-record-never-11}
use Rattle.rewriting.specs.Rewriting.{result_of}
use Rattle.rewriting.specs.declared.RewritingCall.TheVariants.{CleanupSeqGraph}
use Rattle.rewriting_calls.specs.Answered.{RewritingAnsweredTo}
use Rattle.rewriting_calls.specs.declared.RewritingAnswer.{RewritingAnswer}
use Rattle.cleanup_seq_graph.specs.Cleans.{SpellsChosen, Cleans, CleansCounted}

-- the number tells the status
status-two : (s : Status) → status_number s ≡ 2 → s ≡ some_variation
unfolding status_number
status-two just_reference e = absurd (omega (arith, e))
status-two some_variation e = refl

status-one : (s : Status) → status_number s ≡ 1 → s ≡ just_reference
unfolding status_number
status-one just_reference e = refl
status-one some_variation e = absurd (omega (arith, e))

module _ {bs out : List ℕ} {caller : ℕ} {r : RewritingAnswer} {a : CountedCleanup} {out' : List ℕ} (small : Bytes bs)
    (A : RewritingAnsweredTo CleanupSeqGraph bs out caller r out') (T : AnswersCleanup r.sent r.status r.rewrites a) where
  abbrev z : Cleaned
  z = cleanup_seq_graph (decode bs)

  abbrev causes : List Cause
  causes = caller_cause caller ∷ record_causes sequence_only bs

  abbrev result : List ℕ
  result = D.cleaned_record bs

  answers : (cleanup_answer_of a.answer ≡ cleanup_seq_graph_answer bs (length out) caller)
      × (a.rewrites ≡ field_of (cleanup_seq_graph_response bs (length out) caller) z.rewrites)
  unfolding cleanup_seq_graph_answer cleanup_seq_graph_response cleanup_seq_graph_causes result_of
  answers = T.is (with_output causes (length out) result) result z A.sent.number A.sent.size (λ i. let c = A.counted i in (c.status, c.rewrites))

  cleans : Cleans bs out caller a.answer out'
  unfolding cleanup_seq_graph_answer cleanup_seq_graph_response cleanup_seq_graph_causes result_of
  cleans = record {
    answer = answers.0;
    written = A.sent.written;
    strings = λ i two. holds (λ rec. SpellsChosen (choice_graph (decode bs)) (decode rec)) (λ ok.
        subst (SpellsChosen (choice_graph (decode bs))) (sym (again ok).graph) (chosen ok (status-two z.status (sym (status-is i) ∙ two)))) i;
    plain = λ i one. holds (λ rec. decode rec ≡ choice_graph (decode bs)) (λ ok.
        (again ok).graph ∙ cleanup-plain (decode bs) (status-one z.status (sym (status-is i) ∙ one))) i;
    room = λ l i. room-enough causes out result (answer_length (form_of bs)) (caller-record-never-11 caller sequence_only bs)
        (λ ok. (again ok).size) l (sym number_is ∙ i);
    reread = holds (RereadAs (form_of bs) z.graph) again;
  }
    where
      number_is : a.answer.number ≡ number_of (cleanup_seq_graph_response bs (length out) caller)
      number_is = ap (λ (x : D.CleanupAnswer). x.number) answers.0

      status-is : a.answer.number ≡ 0 → a.answer.status ≡ status_number z.status
      status-is i = ap (λ (x : D.CleanupAnswer). x.status) answers.0 ∙ field-answered causes out result (status_number z.status) (sym number_is ∙ i)

      none_of : refusal_of causes ≡ 0 → record_refusal sequence_only bs ≡ 0
      none_of = caller-record-none caller sequence_only bs

      again : refusal_of causes ≡ 0 → RereadAs (form_of bs) z.graph result
      again ok = cleanup-reread bs small (none_of ok)

      holds : (P : List ℕ → Type 0) → (refusal_of causes ≡ 0 → P result) → a.answer.number ≡ 0 → P (take a.answer.length out')
      holds P f = answered-holds causes out result P f number_is (ap (λ (x : D.CleanupAnswer). x.length) answers.0) A.sent.written

      chosen : refusal_of causes ≡ 0 → z.status ≡ some_variation → SpellsChosen (choice_graph (decode bs)) z.graph
      chosen ok v =
          let y = cleanup-varies (decode bs) (accepted-good sequence_only bs (none_of ok)) v in
          record { source = y.0.source; sink = y.0.sink; is-source = y.0.is_source; is-sink = y.0.is_sink; strings = y.1 }

  pub cleans-counted : CleansCounted bs out caller a out'
  cleans-counted = record { cleans = cleans; rewrites = answers.1 }
