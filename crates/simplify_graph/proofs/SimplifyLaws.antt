-- The promise of simplify_graph: the answer and the output are the definition's, and of these the rest is known by laws. Assumes nothing.
use mathlib.Core.Path.{◌≡◌, sym, ap, ◌∙◌, subst}
use mathlib.Core.Logic.{◌↔◌}
use mathlib.Core.List.{List, ◌∷◌}
use Prim.Native.Nat.{ℕ}
use native.Mathlib.Omega.{arith}
use lib.ListN.{length, take}
use Rattle.defs.specs.SeqGraph.{Graph}
use Rattle.defs.specs.Simplify as S
use Rattle.defs.specs.Simplify.{simplify_graph_full, min_tail_suffix_len}
use Rattle.defs.specs.Strings.{Spells}
use Rattle.defs.specs.Forms.{form_of}
use Rattle.defs.specs.Record.{decode}
use Rattle.defs.specs.Refusals.{Cause, refusal_of, sequence_only, record_causes, record_refusal}
use Rattle.defs.specs.Calls as D
use Rattle.defs.specs.Calls.{number_of, caller_cause, simplify_graph_causes, simplify_graph_response, simplify_graph_answer}
use Rattle.calls.specs.Sending.{with_output}
use Rattle.laws.proofs.Fuel.{Good}
use Rattle.laws.proofs.Measures.{weight}
use Rattle.laws.proofs.Bound.{simplify-bound}
use Rattle.laws.proofs.Whole.{simplify-spells}
use Rattle.sound.proofs.Accepted.{accepted-good}
use Rattle.reread.specs.Reread.{answer_length, RereadAs}
use Rattle.reread.proofs.Read.{Bytes}
use Rattle.reread.proofs.Answers.{simplify-reread}
use Rattle.calls.specs.Answers.{simplify_answer_of, AnswersSimplify}
use Rattle.calls.specs.declared.SimplifyAnswer.{SimplifyAnswer}
use Rattle.calls.proofs.ResponseLaws.{answered-holds, room-enough, field-most}
use Rattle.calls.proofs.CallerLaws.{caller-record-none, caller-record-never-11}
use Rattle.rewriting.specs.Rewriting.{result_of}
use Rattle.rewriting.specs.declared.RewritingCall.TheVariants.{SimplifyGraph}
use Rattle.rewriting_calls.specs.Answered.{RewritingAnsweredTo}
use Rattle.rewriting_calls.specs.declared.RewritingAnswer.{RewritingAnswer}
use Rattle.simplify_graph.specs.Simplifies.{Simplifies}

module _ {bs out : List ℕ} {caller : ℕ} {r : RewritingAnswer} {a : SimplifyAnswer} {out' : List ℕ} (small : Bytes bs)
    (A : RewritingAnsweredTo SimplifyGraph bs out caller r out') (T : AnswersSimplify r.sent r.rewrites r.rounds r.end a) where
  abbrev z : S.Simplified
  z = simplify_graph_full min_tail_suffix_len (decode bs)

  abbrev causes : List Cause
  causes = caller_cause caller ∷ record_causes sequence_only bs

  abbrev result : List ℕ
  result = D.simplified_record bs

  answer-is : simplify_answer_of a ≡ simplify_graph_answer bs (length out) caller
  unfolding simplify_graph_answer simplify_graph_response simplify_graph_causes result_of
  answer-is = T.is (with_output causes (length out) result) result z A.sent.number A.sent.size (λ i. let c = A.counted i in (c.rewrites, (c.rounds, c.end)))

  pub simplifies : Simplifies bs out caller a out'
  unfolding simplify_graph_answer simplify_graph_response simplify_graph_causes result_of weight
  simplifies = record {
    answer = answer-is;
    written = A.sent.written;
    strings = holds (λ rec. (s : List ℕ) → Spells (decode bs) s ↔ Spells (decode rec) s) (λ ok s.
        subst (λ (g : Graph). Spells (decode bs) s ↔ Spells g s) (sym (again ok).graph) (simplify-spells (decode bs) (good ok).0 s));
    bound = omega (
      arith,
      ap (λ (x : D.SimplifyAnswer). x.rewrites) answer-is,
      field-most causes out result z.rewrites _
          (λ ok. simplify-bound min_tail_suffix_len (omega arith) (decode bs) (good ok)),
    );
    room = λ l i. room-enough causes out result (answer_length (form_of bs)) (caller-record-never-11 caller sequence_only bs)
        (λ ok. (again ok).size) l (sym number_is ∙ i);
    reread = holds (RereadAs (form_of bs) z.graph) again;
  }
    where
      number_is : a.number ≡ number_of (simplify_graph_response bs (length out) caller)
      number_is = ap (λ (x : D.SimplifyAnswer). x.number) answer-is

      none_of : refusal_of causes ≡ 0 → record_refusal sequence_only bs ≡ 0
      none_of = caller-record-none caller sequence_only bs

      good : refusal_of causes ≡ 0 → Good (decode bs)
      good ok = accepted-good sequence_only bs (none_of ok)

      again : refusal_of causes ≡ 0 → RereadAs (form_of bs) z.graph result
      again ok = simplify-reread bs small (none_of ok)

      holds : (P : List ℕ → Type 0) → (refusal_of causes ≡ 0 → P result) → a.number ≡ 0 → P (take a.length out')
      holds P f = answered-holds causes out result P f number_is (ap (λ (x : D.SimplifyAnswer). x.length) answer-is) A.sent.written
