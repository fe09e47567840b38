-- The number of each public call is that of the first of its causes that is present, both ways: it follows from the call's promise. Assumes nothing.
use mathlib.Core.Path.{◌≡◌, refl, sym, ap, ◌∙◌, subst}
use mathlib.Core.List.{List}
use Prim.Native.Nat.{ℕ}
use lib.ListN.{length}
use Rattle.defs.specs.Lists.{all_of}
use Rattle.defs.specs.Refusals.{Cause, IsNumberOf, layout_causes, record_causes}
use Rattle.defs.specs.Calls as D
use Rattle.defs.specs.Calls.{Response, number_of, respond, caller_cause, output_cause, conversion_causes}
use Rattle.defs.specs.Calls.{vertex_sequence_causes, vertex_sequence_number, from_assembly_graph_causes, from_assembly_graph_response, from_assembly_graph_answer}
use Rattle.defs.specs.Calls.{simplify_graph_causes, simplify_graph_response, simplify_graph_answer}
use Rattle.defs.specs.Calls.{cleanup_seq_graph_causes, cleanup_seq_graph_response, cleanup_seq_graph_answer}
use Rattle.defs.specs.Calls.{clean_non_ref_paths_causes, clean_non_ref_paths_response, clean_non_ref_paths_answer}
use Rattle.defs.specs.Calls.{reference_path_bytes_causes, reference_path_bytes_response, path_bases_bytes_causes, path_bases_bytes_response}
use Rattle.laws.proofs.Causes.{CausesNumbered, numbers-above, refusal-number, respond-number}
use Rattle.calls.specs.declared.Answer.{Answer}
use Rattle.calls.specs.declared.SimplifyAnswer.{SimplifyAnswer}
use Rattle.calls.specs.declared.CleanupAnswer.{CleanupAnswer}
use Rattle.vertex_sequence.specs.Handed.{Placed}
use Rattle.vertex_sequence.specs.declared.SequencePlace.{SequencePlace}
use Rattle.from_assembly_graph.specs.Converts.{Converts}
use Rattle.simplify_graph.specs.Simplifies.{Simplifies}
use Rattle.cleanup_seq_graph.specs.Cleans.{Cleans}
use Rattle.clean_non_ref_paths.specs.CleansPaths.{CleansPaths}
use Rattle.string_calls.specs.TellsBytes.{TellsBytes}

-- of any call that responds to a list of causes
responds-first : {causes : List Cause} → CausesNumbered causes → {x : Response} (result : List ℕ) → x ≡ respond causes result → {n : ℕ} → n ≡ number_of x
    → IsNumberOf causes n
responds-first {causes} N result e q = subst (IsNumberOf causes) (sym (q ∙ ap number_of e ∙ respond-number causes result)) (refusal-number causes N)

pub vertex-sequence-number : {bs : List ℕ} {v told : ℕ} {r : SequencePlace} → Placed bs v told r → IsNumberOf (vertex_sequence_causes bs v) told
unfolding vertex_sequence_number vertex_sequence_causes record_causes layout_causes all_of
vertex-sequence-number {bs} {v} P =
    let causes = vertex_sequence_causes bs v in
    subst (IsNumberOf causes) (sym P.number) (refusal-number causes (numbers-above causes refl))

module _ {bs out : List ℕ} {caller : ℕ} {out' : List ℕ} where
  pub from-assembly-graph-number : {r : Answer} → Converts bs out caller r out' → IsNumberOf (from_assembly_graph_causes bs (length out) caller) r.number
  unfolding caller_cause from_assembly_graph_answer from_assembly_graph_response from_assembly_graph_causes conversion_causes output_cause layout_causes D.answer all_of
  from-assembly-graph-number C =
      responds-first (numbers-above (from_assembly_graph_causes bs (length out) caller) refl) _ refl (ap (λ (a : D.Answer). a.number) C.answer)

  pub simplify-graph-number : {r : SimplifyAnswer} → Simplifies bs out caller r out' → IsNumberOf (simplify_graph_causes bs (length out) caller) r.number
  unfolding caller_cause simplify_graph_answer simplify_graph_response simplify_graph_causes output_cause record_causes layout_causes all_of
  simplify-graph-number C =
      responds-first (numbers-above (simplify_graph_causes bs (length out) caller) refl) _ refl (ap (λ (a : D.SimplifyAnswer). a.number) C.answer)

  pub cleanup-seq-graph-number : {r : CleanupAnswer} → Cleans bs out caller r out' → IsNumberOf (cleanup_seq_graph_causes bs (length out) caller) r.number
  unfolding caller_cause cleanup_seq_graph_answer cleanup_seq_graph_response cleanup_seq_graph_causes output_cause record_causes layout_causes all_of
  cleanup-seq-graph-number C =
      responds-first (numbers-above (cleanup_seq_graph_causes bs (length out) caller) refl) _ refl (ap (λ (a : D.CleanupAnswer). a.number) C.answer)

  pub clean-non-ref-paths-number : {r : Answer} → CleansPaths bs out caller r out' → IsNumberOf (clean_non_ref_paths_causes bs (length out) caller) r.number
  unfolding caller_cause clean_non_ref_paths_answer clean_non_ref_paths_response clean_non_ref_paths_causes output_cause record_causes layout_causes D.answer all_of
  clean-non-ref-paths-number C =
      responds-first (numbers-above (clean_non_ref_paths_causes bs (length out) caller) refl) _ refl (ap (λ (a : D.Answer). a.number) C.answer)

module _ (bs : List ℕ) (caller : ℕ) {out out' : List ℕ} {r : Answer} where
  pub reference-path-bytes-number : TellsBytes bs (reference_path_bytes_response bs (length out) caller) out r out'
      → IsNumberOf (reference_path_bytes_causes bs (length out) caller) r.number
  unfolding caller_cause reference_path_bytes_response reference_path_bytes_causes output_cause record_causes layout_causes D.answer all_of
  reference-path-bytes-number C =
      responds-first (numbers-above (reference_path_bytes_causes bs (length out) caller) refl) _ refl (ap (λ (a : D.Answer). a.number) C.answer)

  pub path-bases-bytes-number : (start : ℕ) (edges : List ℕ) → TellsBytes bs (path_bases_bytes_response bs start edges (length out) caller) out r out'
      → IsNumberOf (path_bases_bytes_causes bs start edges (length out) caller) r.number
  unfolding caller_cause path_bases_bytes_response path_bases_bytes_causes output_cause record_causes layout_causes D.answer all_of
  path-bases-bytes-number start edges C =
      responds-first (numbers-above (path_bases_bytes_causes bs start edges (length out) caller) refl) _ refl (ap (λ (a : D.Answer). a.number) C.answer)
