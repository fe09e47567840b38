-- What each call answers is what its caller's tally counts of it. Assumes nothing.
use mathlib.Core.Path.{◌≡◌, refl, ap, subst}
use mathlib.Core.List.{List}
use Prim.Native.Nat.{ℕ}
use lib.ListN.{length}
use Rattle.defs.specs.Calls as D
use Rattle.defs.specs.Calls.{Response, refused, accepted, number_of, field_of, counted_of}
use Rattle.defs.specs.Calls.{from_assembly_graph_answer, from_assembly_graph_counted, simplify_graph_answer, simplify_graph_counted}
use Rattle.defs.specs.Calls.{cleanup_seq_graph_answer, cleanup_seq_graph_counted, clean_non_ref_paths_answer, clean_non_ref_paths_counted}
use Rattle.defs.specs.Calls.{reference_path_bytes_response, reference_path_bytes_counted, path_bases_bytes_response, path_bases_bytes_counted}
use Rattle.defs.specs.Sequence.{counted_by, from_assembly_graph_call, simplify_graph_call, cleanup_seq_graph_call, clean_non_ref_paths_call}
use Rattle.defs.specs.Sequence.{reference_path_bytes_call, path_bases_bytes_call}
use Rattle.defs.specs.Tallies.{CountedCall}
use Rattle.calls.specs.Answers.{answer_of}
use Rattle.calls.specs.declared.Answer.{Answer}
use Rattle.calls.specs.declared.SimplifyAnswer.{SimplifyAnswer}
use Rattle.calls.specs.declared.CountedCleanup.{CountedCleanup}
use Rattle.from_assembly_graph.specs.Converts.{Converts}
use Rattle.simplify_graph.specs.Simplifies.{Simplifies}
use Rattle.cleanup_seq_graph.specs.Cleans.{CleansCounted}
use Rattle.clean_non_ref_paths.specs.CleansPaths.{CleansPaths}
use Rattle.string_calls.specs.TellsBytes.{TellsBytes}
use Rattle.tallies.specs.Raises.{counted, Raises}
use Rattle.tallies.specs.declared.Tallies.{Tallies}

no-rewrites : (x : Response) → 0 ≡ field_of x 0
unfolding field_of
no-rewrites (refused n) = refl
no-rewrites (accepted bytes) = refl

module _ {caller : ℕ} {table table' : Tallies} where
  module _ (x : Response) where
    raises-counted : {number rewrites : ℕ} (made : ℕ) → number ≡ number_of x → rewrites ≡ field_of x made
        → Raises (counted caller number rewrites) table table' → Raises (counted_of caller x made) table table'
    unfolding counted_of
    raises-counted made n w R = subst (λ (c : CountedCall). Raises c table table') (λ i. record { caller = caller; number = n i; rewrites = w i }) R

    -- of a call that makes no rewrites
    raises-answer : {a : Answer} → answer_of a ≡ D.answer x → Raises (counted caller a.number 0) table table'
        → Raises (counted_of caller x 0) table table'
    unfolding D.answer
    raises-answer e R = raises-counted 0 (ap (λ (y : D.Answer). y.number) e) (no-rewrites x) R

  module _ {bs out out' : List ℕ} where
    pub converts-raises : {r : Answer} → Converts bs out caller r out' → Raises (counted caller r.number 0) table table'
        → Raises (counted_by (from_assembly_graph_call bs (length out) caller)) table table'
    unfolding counted_by from_assembly_graph_counted from_assembly_graph_answer
    converts-raises C R = raises-answer _ C.answer R

    pub simplifies-raises : {r : SimplifyAnswer} → Simplifies bs out caller r out' → Raises (counted caller r.number r.rewrites) table table'
        → Raises (counted_by (simplify_graph_call bs (length out) caller)) table table'
    unfolding counted_by simplify_graph_counted simplify_graph_answer
    simplifies-raises C R =
        raises-counted _ _ (ap (λ (y : D.SimplifyAnswer). y.number) C.answer) (ap (λ (y : D.SimplifyAnswer). y.rewrites) C.answer) R

    pub cleans-raises : {r : CountedCleanup} → CleansCounted bs out caller r out' → Raises (counted caller r.answer.number r.rewrites) table table'
        → Raises (counted_by (cleanup_seq_graph_call bs (length out) caller)) table table'
    unfolding counted_by cleanup_seq_graph_counted cleanup_seq_graph_answer
    cleans-raises C R = raises-counted _ _ (ap (λ (y : D.CleanupAnswer). y.number) C.cleans.answer) C.rewrites R

    pub cleans-paths-raises : {r : Answer} → CleansPaths bs out caller r out' → Raises (counted caller r.number 0) table table'
        → Raises (counted_by (clean_non_ref_paths_call bs (length out) caller)) table table'
    unfolding counted_by clean_non_ref_paths_counted clean_non_ref_paths_answer
    cleans-paths-raises C R = raises-answer _ C.answer R

  module _ (bs : List ℕ) {out out' : List ℕ} {r : Answer} where
    pub reference-raises : TellsBytes bs (reference_path_bytes_response bs (length out) caller) out r out' → Raises (counted caller r.number 0) table table'
        → Raises (counted_by (reference_path_bytes_call bs (length out) caller)) table table'
    unfolding counted_by reference_path_bytes_counted
    reference-raises C R = raises-answer _ C.answer R

    pub path-raises : (start : ℕ) (edges : List ℕ) → TellsBytes bs (path_bases_bytes_response bs start edges (length out) caller) out r out'
        → Raises (counted caller r.number 0) table table' → Raises (counted_by (path_bases_bytes_call bs start edges (length out) caller)) table table'
    unfolding counted_by path_bases_bytes_counted
    path-raises start edges C R = raises-answer _ C.answer R
