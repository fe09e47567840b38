-- The public calls: of each the list of its causes of a refusal, its whole answer, the lent output at exit and what its caller's tally counts
-- of it, from the record, the arguments, the room and the caller.
-- Assumes nothing.
use Rattle.std.specs.Prelude.{ℕ, zero, suc, Bool, true, false, cond, not, List, [], ◌∷◌, ◌++◌, eqb, ltb, leb, length, drop}
use Rattle.std.proofs.Math.Option.{Option, none, some}
use Rattle.defs.specs.SeqGraph.{vertex_sequence}
use Rattle.defs.specs.Simplify.{Simplified, sequence_bytes, simplify_graph_full, min_tail_suffix_len, end_number}
use Rattle.defs.specs.Cleanup.{Cleaned, status_number, cleanup_seq_graph, clean_non_ref_paths}
use Rattle.defs.specs.Forms.{form_of, limits}
use Rattle.defs.specs.Record.{sequence_graph, vertices_of, encode, decode}
use Rattle.defs.specs.Refusals.{Cause, refusal_of, kmer_only, sequence_only, both_kinds}
use Rattle.defs.specs.Refusals.{layout_causes, doubled_cause, overlap_cause, cycle_cause, record_causes}
use Rattle.defs.specs.Assembly.{from_assembly_graph}
use Rattle.defs.specs.Paths.{is_path_of, path_bases_bytes, reference_path_bytes}
use Rattle.defs.specs.Tallies.{CountedCall}

-- What a call makes of its input: a refusal, or the bytes of its result.
pub data Response : Type 0 where
  refused : ℕ → Response
  accepted : List ℕ → Response

unfoldable pub number_of : Response → ℕ
number_of (refused n) = n
number_of (accepted r) = 0

-- the length, and any other result field, is 0 when refused
unfoldable pub length_of : Response → ℕ
length_of (refused n) = 0
length_of (accepted r) = length r

unfoldable pub field_of : Response → ℕ → ℕ
field_of (refused n) x = 0
field_of (accepted r) x = x

-- the lent output at exit: as it was when refused; its first bytes replaced by the result when accepted
unfoldable pub written_of : Response → List ℕ → List ℕ
written_of (refused n) out = out
written_of (accepted r) out = r ++ drop (length r) out

-- 18: a caller above 15, asked before all else
unfoldable pub caller_cause : ℕ → Cause
caller_cause caller = record { number = 18; present = ltb 15 caller }

-- 11: the output is shorter than the result
unfoldable pub output_cause : ℕ → List ℕ → Cause
output_cause room result = record { number = 11; present = ltb room (length result) }

-- a number other than 0 refuses
unfoldable pub respond_to : ℕ → List ℕ → Response
respond_to zero result = accepted result
respond_to (suc n) result = refused (suc n)

-- the first of the call's causes that is present refuses, by its number; where none is, the result is the answer
unfoldable pub respond : List Cause → List ℕ → Response
respond causes result = respond_to (refusal_of causes) result

-- number and length: the answer of conversion, of clean_non_ref_paths and of the two string calls
pub record Answer : Type 0 where
  pub number : ℕ
  pub length : ℕ

unfoldable pub answer : Response → Answer
answer r = record { number = number_of r; length = length_of r }

-- what is counted of a call that, where it is answered, made so many rewrites
unfoldable pub counted_of : ℕ → Response → ℕ → CountedCall
counted_of caller r rewrites = record { caller = caller; number = number_of r; rewrites = field_of r rewrites }

-- vertex_sequence: 1 to 7, 9; the number for the lent cell, and the part handed back
abbrev pub vertex_cause : List ℕ → ℕ → Cause
vertex_cause bs v = record { number = 9; present = leb (vertices_of bs) v }

unfoldable pub vertex_sequence_causes : List ℕ → ℕ → List Cause
vertex_sequence_causes bs v = record_causes both_kinds bs ++ (vertex_cause bs v ∷ [])

unfoldable pub vertex_sequence_number : List ℕ → ℕ → ℕ
vertex_sequence_number bs v = refusal_of (vertex_sequence_causes bs v)

unfoldable pub vertex_sequence_part : List ℕ → ℕ → List ℕ
vertex_sequence_part bs v = cond (eqb (vertex_sequence_number bs v) 0) (vertex_sequence (decode bs) v) []

-- from_assembly_graph: 18, 1 to 6, 15, 7, 8, 11; 8 where the converted graph has more bytes than a record of this form may
abbrev pub bytes_cause : List ℕ → Cause
bytes_cause bs = record { number = 8; present = ltb (limits (form_of bs)).bytes (sequence_bytes (from_assembly_graph (decode bs)).verts) }

unfoldable pub conversion_causes : List ℕ → List Cause
conversion_causes bs = layout_causes kmer_only bs ++ (doubled_cause bs ∷ overlap_cause bs ∷ cycle_cause bs ∷ bytes_cause bs ∷ [])

abbrev pub converted_record : List ℕ → List ℕ
converted_record bs = encode (form_of bs) sequence_graph 0 (from_assembly_graph (decode bs))

unfoldable pub from_assembly_graph_causes : List ℕ → ℕ → ℕ → List Cause
from_assembly_graph_causes bs room caller = caller_cause caller ∷ (conversion_causes bs ++ (output_cause room (converted_record bs) ∷ []))

unfoldable pub from_assembly_graph_response : List ℕ → ℕ → ℕ → Response
from_assembly_graph_response bs room caller = respond (from_assembly_graph_causes bs room caller) (converted_record bs)

unfoldable pub from_assembly_graph_answer : List ℕ → ℕ → ℕ → Answer
from_assembly_graph_answer bs room caller = answer (from_assembly_graph_response bs room caller)

unfoldable pub from_assembly_graph_counted : List ℕ → ℕ → ℕ → CountedCall
from_assembly_graph_counted bs room caller = counted_of caller (from_assembly_graph_response bs room caller) 0

-- simplify_graph: 18, 1 to 7, 11
abbrev pub simplified_record : List ℕ → List ℕ
simplified_record bs = encode (form_of bs) sequence_graph 0 (simplify_graph_full min_tail_suffix_len (decode bs)).graph

unfoldable pub simplify_graph_causes : List ℕ → ℕ → ℕ → List Cause
simplify_graph_causes bs room caller = caller_cause caller ∷ (record_causes sequence_only bs ++ (output_cause room (simplified_record bs) ∷ []))

unfoldable pub simplify_graph_response : List ℕ → ℕ → ℕ → Response
simplify_graph_response bs room caller = respond (simplify_graph_causes bs room caller) (simplified_record bs)

pub record SimplifyAnswer : Type 0 where
  pub number : ℕ
  pub length : ℕ
  pub rewrites : ℕ
  pub rounds : ℕ
  pub end : ℕ

abbrev pub simplify_answer : Response → Simplified → SimplifyAnswer
simplify_answer r s = record {
  number = number_of r;
  length = length_of r;
  rewrites = field_of r s.rewrites;
  rounds = field_of r s.rounds;
  end = field_of r (end_number s.end);
}

unfoldable pub simplify_graph_answer : List ℕ → ℕ → ℕ → SimplifyAnswer
simplify_graph_answer bs room caller = simplify_answer (simplify_graph_response bs room caller) (simplify_graph_full min_tail_suffix_len (decode bs))

unfoldable pub simplify_graph_counted : List ℕ → ℕ → ℕ → CountedCall
simplify_graph_counted bs room caller = counted_of caller (simplify_graph_response bs room caller) (simplify_graph_full min_tail_suffix_len (decode bs)).rewrites

-- cleanup_seq_graph: 18, 1 to 7, 11; its rewrites are counted and not answered
abbrev pub cleaned_record : List ℕ → List ℕ
cleaned_record bs = let c = cleanup_seq_graph (decode bs) in encode (form_of bs) sequence_graph (status_number c.status) c.graph

unfoldable pub cleanup_seq_graph_causes : List ℕ → ℕ → ℕ → List Cause
cleanup_seq_graph_causes bs room caller = caller_cause caller ∷ (record_causes sequence_only bs ++ (output_cause room (cleaned_record bs) ∷ []))

unfoldable pub cleanup_seq_graph_response : List ℕ → ℕ → ℕ → Response
cleanup_seq_graph_response bs room caller = respond (cleanup_seq_graph_causes bs room caller) (cleaned_record bs)

pub record CleanupAnswer : Type 0 where
  pub number : ℕ
  pub length : ℕ
  pub status : ℕ

abbrev pub cleanup_answer : Response → Cleaned → CleanupAnswer
cleanup_answer r c = record { number = number_of r; length = length_of r; status = field_of r (status_number c.status) }

unfoldable pub cleanup_seq_graph_answer : List ℕ → ℕ → ℕ → CleanupAnswer
cleanup_seq_graph_answer bs room caller = cleanup_answer (cleanup_seq_graph_response bs room caller) (cleanup_seq_graph (decode bs))

unfoldable pub cleanup_seq_graph_counted : List ℕ → ℕ → ℕ → CountedCall
cleanup_seq_graph_counted bs room caller = counted_of caller (cleanup_seq_graph_response bs room caller) (cleanup_seq_graph (decode bs)).rewrites

-- clean_non_ref_paths: 18, 1 to 7, 11
abbrev pub reduced_record : List ℕ → List ℕ
reduced_record bs = encode (form_of bs) sequence_graph 0 (clean_non_ref_paths (decode bs))

unfoldable pub clean_non_ref_paths_causes : List ℕ → ℕ → ℕ → List Cause
clean_non_ref_paths_causes bs room caller = caller_cause caller ∷ (record_causes sequence_only bs ++ (output_cause room (reduced_record bs) ∷ []))

unfoldable pub clean_non_ref_paths_response : List ℕ → ℕ → ℕ → Response
clean_non_ref_paths_response bs room caller = respond (clean_non_ref_paths_causes bs room caller) (reduced_record bs)

unfoldable pub clean_non_ref_paths_answer : List ℕ → ℕ → ℕ → Answer
clean_non_ref_paths_answer bs room caller = answer (clean_non_ref_paths_response bs room caller)

unfoldable pub clean_non_ref_paths_counted : List ℕ → ℕ → ℕ → CountedCall
clean_non_ref_paths_counted bs room caller = counted_of caller (clean_non_ref_paths_response bs room caller) 0

-- reference_path_bytes: 18, 1 to 7, 10, 11; 10 where there is no reference path
unfoldable pub is_nothing : Option (List ℕ) → Bool
is_nothing none = true
is_nothing (some s) = false

unfoldable pub bytes_or_none : Option (List ℕ) → List ℕ
bytes_or_none none = []
bytes_or_none (some s) = s

abbrev pub reference_cause : List ℕ → Cause
reference_cause bs = record { number = 10; present = is_nothing (reference_path_bytes (decode bs)) }

abbrev pub reference_bytes : List ℕ → List ℕ
reference_bytes bs = bytes_or_none (reference_path_bytes (decode bs))

unfoldable pub reference_path_bytes_causes : List ℕ → ℕ → ℕ → List Cause
reference_path_bytes_causes bs room caller =
    caller_cause caller ∷ (record_causes sequence_only bs ++ (reference_cause bs ∷ output_cause room (reference_bytes bs) ∷ []))

unfoldable pub reference_path_bytes_response : List ℕ → ℕ → ℕ → Response
reference_path_bytes_response bs room caller = respond (reference_path_bytes_causes bs room caller) (reference_bytes bs)

unfoldable pub reference_path_bytes_counted : List ℕ → ℕ → ℕ → CountedCall
reference_path_bytes_counted bs room caller = counted_of caller (reference_path_bytes_response bs room caller) 0

-- path_bases_bytes: 18, 1 to 7, 9, 11; 9 where the start or the list of edges is no path
abbrev pub path_cause : List ℕ → ℕ → List ℕ → Cause
path_cause bs start edges = record { number = 9; present = not (is_path_of (decode bs) start edges) }

abbrev pub path_bytes : List ℕ → ℕ → List ℕ → List ℕ
path_bytes bs start edges = path_bases_bytes (decode bs) start edges

unfoldable pub path_bases_bytes_causes : List ℕ → ℕ → List ℕ → ℕ → ℕ → List Cause
path_bases_bytes_causes bs start edges room caller =
    caller_cause caller ∷ (record_causes sequence_only bs ++ (path_cause bs start edges ∷ output_cause room (path_bytes bs start edges) ∷ []))

unfoldable pub path_bases_bytes_response : List ℕ → ℕ → List ℕ → ℕ → ℕ → Response
path_bases_bytes_response bs start edges room caller = respond (path_bases_bytes_causes bs start edges room caller) (path_bytes bs start edges)

unfoldable pub path_bases_bytes_counted : List ℕ → ℕ → List ℕ → ℕ → ℕ → CountedCall
path_bases_bytes_counted bs start edges room caller = counted_of caller (path_bases_bytes_response bs start edges room caller) 0
