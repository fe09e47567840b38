-- The promise of clean_non_ref_paths: the answer and the output are the definition's, and of these the rest is known by laws. Assumes nothing.
use mathlib.Core.Path.{◌≡◌, sym, ◌∙◌}
use mathlib.Core.List.{List, ◌∷◌}
use Prim.Native.Nat.{ℕ}
use native.Mathlib.Omega.{arith}
use lib.ListN.{length}
use Rattle.defs.specs.Cleanup.{clean_non_ref_paths}
use Rattle.defs.specs.Forms.{form_of}
use Rattle.defs.specs.Record.{decode}
use Rattle.defs.specs.Refusals.{Cause, refusal_of, sequence_only, record_causes}
use Rattle.defs.specs.Calls as D
use Rattle.defs.specs.Calls.{caller_cause, clean_non_ref_paths_causes, clean_non_ref_paths_response, clean_non_ref_paths_answer}
use Rattle.reread.specs.Reread.{input_length, ReacceptedAs}
use Rattle.reread.proofs.Graphs.{input-reaccepted}
use Rattle.reread.proofs.Read.{Bytes, sequence-input}
use Rattle.cleanup_room.proofs.CleanInput.{clean-input}
use Rattle.calls.specs.Sending.{Responds}
use Rattle.calls.specs.declared.Answer.{Answer}
use Rattle.calls.proofs.ResponseLaws.{answered-holds, room-enough}
use Rattle.calls.proofs.CallerLaws.{caller-record-none, caller-record-never-11}
use Rattle.reading_calls.specs.Reading.{reading_response_to}
use Rattle.reading_calls.specs.declared.ReadingCall.TheVariants.{CleanNonRefPaths}
use Rattle.clean_non_ref_paths.specs.CleansPaths.{CleansPaths}

module _ (bs list : List ℕ) (caller : ℕ) {out : List ℕ} {a : Answer} {out' : List ℕ} (small : Bytes bs)
    (S : Responds (reading_response_to CleanNonRefPaths list bs (length out) caller) out a out') where
  abbrev causes : List Cause
  causes = caller_cause caller ∷ record_causes sequence_only bs

  abbrev result : List ℕ
  result = D.reduced_record bs

  again : refusal_of causes ≡ 0 → ReacceptedAs (form_of bs) (clean_non_ref_paths (decode bs)) result
  again ok =
      let I = sequence-input bs small (caller-record-none caller sequence_only bs ok) in
      input-reaccepted (form_of bs) (clean_non_ref_paths (decode bs)) (clean-input (form_of bs) (decode bs) I) 0 (omega arith)

  pub cleans-paths : CleansPaths bs out caller a out'
  unfolding clean_non_ref_paths_answer clean_non_ref_paths_response clean_non_ref_paths_causes reading_response_to D.answer
  cleans-paths = record {
    answer = λ i. record { number = S.number i; length = S.size i };
    written = S.written;
    room = λ l i. room-enough causes out result (input_length (form_of bs)) (caller-record-never-11 caller sequence_only bs)
        (λ ok. (again ok).size) l (sym S.number ∙ i);
    reaccepted = answered-holds causes out result (ReacceptedAs (form_of bs) (clean_non_ref_paths (decode bs))) again S.number S.size S.written;
  }
