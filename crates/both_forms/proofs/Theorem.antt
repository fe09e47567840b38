-- THE TWO FORMS ARE ONE: a graph that fits SGR1 is judged alike in both forms of its record, and every call answers alike. Assumes nothing.
use Prim.Native.Nat.{ℕ, ◌≤◌}
use native.Mathlib.Omega.{arith}
use mathlib.Core.Path.{◌≡◌, refl, sym, ap, ◌∙◌, subst, subst₂}
use mathlib.Core.Bool.{false, cond, not}
use mathlib.Core.List.{List, [], ◌∷◌, ◌++◌, Memᴰ}
use lib.Dec.{eqb, ltb, leb}
use borrow.Author.Tests.{le-ltb}
use Rattle.defs.specs.Forms.{Form, sgr1, sgr2, form_of, limits}
use Rattle.defs.specs.SeqGraph.{Graph, vertex_sequence}
use Rattle.defs.specs.Simplify.{Simplified, simplify_graph_full, min_tail_suffix_len, sequence_bytes, end_number}
use Rattle.defs.specs.Cleanup.{status_number, cleanup_seq_graph, clean_non_ref_paths}
use Rattle.defs.specs.Assembly.{from_assembly_graph}
use Rattle.defs.specs.Paths.{is_path_of, path_bases_bytes, reference_path_bytes}
use Rattle.defs.specs.Record.{RecordKind, sequence_graph, record_kind_number, kind_of, status_of, encode, decode}
use Rattle.defs.specs.Refusals.{Takes, refusal_of, kmer_only, sequence_only, both_kinds, edge_without_overlap, has_cycle, layout_causes, record_causes, record_refusal}
use Rattle.defs.specs.Calls.{caller_cause, output_cause, respond, is_nothing, bytes_or_none}
use Rattle.defs.specs.Calls.{vertex_sequence_causes, vertex_sequence_number, vertex_sequence_part, conversion_causes, converted_record}
use Rattle.defs.specs.Calls.{from_assembly_graph_causes, from_assembly_graph_response, from_assembly_graph_counted}
use Rattle.defs.specs.Calls.{simplified_record, simplify_graph_causes, simplify_graph_response, simplify_graph_answer, simplify_graph_counted}
use Rattle.defs.specs.Calls.{cleaned_record, cleanup_seq_graph_causes, cleanup_seq_graph_response, cleanup_seq_graph_answer, cleanup_seq_graph_counted}
use Rattle.defs.specs.Calls.{reduced_record, clean_non_ref_paths_causes, clean_non_ref_paths_response, clean_non_ref_paths_counted, counted_of}
use Rattle.defs.specs.Calls.{reference_path_bytes_causes, reference_path_bytes_response, reference_path_bytes_counted}
use Rattle.defs.specs.Calls.{path_bases_bytes_causes, path_bases_bytes_response, path_bases_bytes_counted}
use Rattle.record.specs.Layout.{WellFormed}
use Rattle.record.proofs.Accepted.{well-formed}
use Rattle.sound.proofs.Accepted.{order-read, edges-read, read-bytes}
use Rattle.codec.specs.Encodable.{Encodable}
use Rattle.codec.proofs.Encoded.{form-written}
use Rattle.codec.proofs.RoundTrip.{decoded-encodable, encode-decode-accepted}
use Rattle.reread.specs.Recordable.{SequenceInput}
use Rattle.reread.proofs.Read.{Bytes, accepted-input}
use Rattle.reread.proofs.Graphs.{answer-encodes, input-answer}
use Rattle.reread.proofs.Answers.{simplified-answer, cleaned-answer}
use Rattle.cleanup_room.proofs.CleanInput.{clean-input}
use Rattle.both_forms.specs.BothForms.{SameGraphBothForms, OneGraph, RoomForBoth, SimplifiedAlike, CleanedAlike, ReducedAlike}
use Rattle.both_forms.specs.BothForms.{ConvertedAlike, ReadAlike, AnsweredAlike}
use Rattle.both_forms.proofs.Responses.{responses-alike}
use Rattle.both_forms.proofs.Converted.{converted-fits}
use Rattle.both_forms.proofs.Judged.{one-graph, layout-same, doubled-same, graph-in, graph_same, vertices-same, judged-alike}

module _ (kind : RecordKind) (status : ℕ) (g : Graph) (ok : SameGraphBothForms kind g) where
  abbrev a : List ℕ
  a = encode sgr1 kind status g

  abbrev b : List ℕ
  b = encode sgr2 kind status g

  same : decode a ≡ decode b
  same = graph_same kind status g ok

  causes : (t : Takes) → record_causes t a ≡ record_causes t b
  causes = (judged-alike kind status g ok).causes

  -- what a call writes, by the status and the graph that it makes
  module _ (stat : Graph → ℕ) (make : Graph → Graph) where
    written_in : (f : Form)
        → encode (form_of (encode f kind status g)) sequence_graph (stat (decode (encode f kind status g))) (make (decode (encode f kind status g)))
        ≡ encode f sequence_graph (stat g) (make g)
    written_in f = λ i. encode (form-written f kind status g i) sequence_graph (stat (graph-in kind status g ok f i)) (make (graph-in kind status g ok f i))

    results-one : Encodable sgr1 (make g)
        → OneGraph (encode (form_of a) sequence_graph (stat (decode a)) (make (decode a))) (encode (form_of b) sequence_graph (stat (decode b)) (make (decode b)))
    results-one E = subst₂ OneGraph (sym (written_in sgr1)) (sym (written_in sgr2)) (one-graph sequence_graph (stat g) E)

  -- an accepted sequence graph is sound, and keeps the limits of SGR1
  input : record_refusal sequence_only a ≡ 0 → SequenceInput sgr1 g
  input z =
      let graph = graph-in kind status g ok sgr1 in
      subst₂ SequenceInput (form-written sgr1 kind status g) graph
      (accepted-input a (λ e m. (ok.fits.each e (subst (λ (h : Graph). Memᴰ e h.edges) graph m)).support) z)

  simplified-alike : (r s caller : ℕ) → RoomForBoth (simplify_graph_response a r caller) (simplify_graph_response b s caller) → SimplifiedAlike a b r s caller
  unfolding simplify_graph_response simplify_graph_causes simplify_graph_answer simplify_graph_counted record_refusal
  simplified-alike r s caller room =
      let made : Graph → Simplified = simplify_graph_full min_tail_suffix_len in
      let R = responses-alike (causes sequence_only) (simplified_record a) (simplified_record b) r s caller room (λ z.
      results-one (λ _. 0) (λ h. (made h).graph) (answer-encodes sgr1 _ (simplified-answer sgr1 g (input z)))) in
      record {
        answer = R.written;
        rewrites = R.field (λ i. (made (same i)).rewrites);
        rounds = R.field (λ i. (made (same i)).rounds);
        end = R.field (λ i. end_number (made (same i)).end);
        counted = R.counted (λ i. (made (same i)).rewrites);
      }

  cleaned-alike : (r s caller : ℕ) → RoomForBoth (cleanup_seq_graph_response a r caller) (cleanup_seq_graph_response b s caller) → CleanedAlike a b r s caller
  unfolding cleanup_seq_graph_response cleanup_seq_graph_causes cleanup_seq_graph_answer cleanup_seq_graph_counted record_refusal
  cleaned-alike r s caller room =
      let R = responses-alike (causes sequence_only) (cleaned_record a) (cleaned_record b) r s caller room (λ z.
      results-one (λ h. status_number (cleanup_seq_graph h).status) (λ h. (cleanup_seq_graph h).graph)
      (answer-encodes sgr1 _ (cleaned-answer sgr1 g (input z)))) in
      record {
        answer = R.written;
        status = R.field (λ i. status_number (cleanup_seq_graph (same i)).status);
        counted = R.counted (λ i. (cleanup_seq_graph (same i)).rewrites);
      }

  reduced-alike : (r s caller : ℕ) → RoomForBoth (clean_non_ref_paths_response a r caller) (clean_non_ref_paths_response b s caller) → ReducedAlike a b r s caller
  unfolding clean_non_ref_paths_response clean_non_ref_paths_causes clean_non_ref_paths_counted record_refusal
  reduced-alike r s caller room =
      let R = responses-alike (causes sequence_only) (reduced_record a) (reduced_record b) r s caller room (λ z.
      results-one (λ _. 0) clean_non_ref_paths (answer-encodes sgr1 _ (input-answer sgr1 _ (clean-input sgr1 g (input z))))) in
      record { answer = R.written; counted = R.counted refl }

  -- conversion, where what it makes keeps SGR1's limit of bytes
  module _ (few : sequence_bytes (from_assembly_graph (decode a)).verts ≤ (limits sgr1).bytes) where
    few-here : sequence_bytes (from_assembly_graph g).verts ≤ (limits sgr1).bytes
    few-here = subst (λ (h : Graph). sequence_bytes (from_assembly_graph h).verts ≤ (limits sgr1).bytes) (graph-in kind status g ok sgr1) few

    within : (f : Form) → sequence_bytes (from_assembly_graph g).verts ≤ (limits f).bytes
    unfolding limits
    within sgr1 = few-here
    within sgr2 = omega (arith, few-here)

    never-8 : (f : Form)
        → ltb (limits (form_of (encode f kind status g))).bytes (sequence_bytes (from_assembly_graph (decode (encode f kind status g))).verts) ≡ false
    never-8 f =
        (λ i. ltb (limits (form-written f kind status g i)).bytes (sequence_bytes (from_assembly_graph (graph-in kind status g ok f i)).verts))
        ∙ le-ltb (limits f).bytes _ (within f)

    conversion-same : conversion_causes a ≡ conversion_causes b
    unfolding conversion_causes
    conversion-same = λ i.
        layout-same kind status g ok kmer_only i
        ++ (record { number = 6; present = doubled-same kind status g ok i }
        ∷ record { number = 15; present = edge_without_overlap (same i) }
        ∷ record { number = 7; present = has_cycle (same i) }
        ∷ record { number = 8; present = (never-8 sgr1 ∙ sym (never-8 sgr2)) i }
        ∷ [])

    converted-alike : (r s caller : ℕ) → RoomForBoth (from_assembly_graph_response a r caller) (from_assembly_graph_response b s caller)
        → ConvertedAlike a b r s caller
    unfolding from_assembly_graph_response from_assembly_graph_causes from_assembly_graph_counted
    converted-alike r s caller room =
        let R = responses-alike conversion-same (converted_record a) (converted_record b) r s caller room (λ z.
        results-one (λ _. 0) from_assembly_graph (converted-fits g ok.fits few-here)) in
        record { answer = R.written; counted = R.counted refl }

  read_alike : ReadAlike a b
  read_alike = record {
    reference = reference;
    reference-counted = λ room caller. unfold reference_path_bytes_counted in (λ i. counted_of caller (reference room caller i) 0);
    path = path;
    path-counted = λ start edges room caller. unfold path_bases_bytes_counted in (λ i. counted_of caller (path start edges room caller i) 0);
    vertex-number = number;
    vertex-part = λ v. unfold vertex_sequence_part in (λ i. cond (eqb (number v i) 0) (vertex_sequence (same i) v) []);
  }
    where
      reference : (room caller : ℕ) → reference_path_bytes_response a room caller ≡ reference_path_bytes_response b room caller
      reference room caller = unfold reference_path_bytes_response reference_path_bytes_causes in (λ i.
          let told = reference_path_bytes (same i) in
          respond
          (caller_cause caller ∷ (causes sequence_only i ++ (record { number = 10; present = is_nothing told } ∷ output_cause room (bytes_or_none told) ∷ [])))
          (bytes_or_none told))

      path : (start : ℕ) (edges : List ℕ) (room caller : ℕ) → path_bases_bytes_response a start edges room caller
          ≡ path_bases_bytes_response b start edges room caller
      path start edges room caller = unfold path_bases_bytes_response path_bases_bytes_causes in (λ i.
          let told = path_bases_bytes (same i) start edges in
          respond
          (caller_cause caller
          ∷ (causes sequence_only i ++ (record { number = 9; present = not (is_path_of (same i) start edges) } ∷ output_cause room told ∷ [])))
          told)

      number : (v : ℕ) → vertex_sequence_number a v ≡ vertex_sequence_number b v
      number v = unfold vertex_sequence_number vertex_sequence_causes in (λ i.
          refusal_of (causes both_kinds i ++ (record { number = 9; present = leb (vertices-same kind status g ok i) v } ∷ [])))

  -- the records of one graph, in either form
  pub both-forms : AnsweredAlike (encode sgr1 kind status g) (encode sgr2 kind status g)
  both-forms = record {
    judged = judged-alike kind status g ok;
    simplified = simplified-alike;
    cleaned = cleaned-alike;
    reduced = reduced-alike;
    conversion = conversion-same;
    converted = converted-alike;
    read = read_alike;
  }

-- A record of SGR1 that passes the checks 1 to 5 holds such a graph: written again as SGR2, it is judged and answered as it was.
module _ (t : Takes) (bs : List ℕ) (small : Bytes bs) (form : form_of bs ≡ sgr1) (none : refusal_of (layout_causes t bs) ≡ 0) (kind : RecordKind)
    (kind-is : record_kind_number kind ≡ kind_of bs) where
  W : WellFormed bs
  W = well-formed t bs none

  stored-fits : SameGraphBothForms kind (decode bs)
  stored-fits = record {
    fits = subst (λ (f : Form). Encodable f (decode bs)) form (decoded-encodable bs small W);
    vertices = omega (arith, order-read bs, W.vertices, ap (λ (f : Form). (limits f).vertices) form);
    edges = omega (arith, edges-read bs, W.edges, ap (λ (f : Form). (limits f).edges) form);
    bytes = λ o. omega (arith, read-bytes bs W, W.bytes (sym kind-is ∙ o), ap (λ (f : Form). (limits f).bytes) form);
  }

  pub stored-in-sgr2 : AnsweredAlike bs (encode sgr2 kind (status_of bs) (decode bs))
  stored-in-sgr2 =
      let back : encode sgr1 kind (status_of bs) (decode bs) ≡ bs =
      ap (λ (f : Form). encode f kind (status_of bs) (decode bs)) (sym form) ∙ encode-decode-accepted t bs small none kind kind-is in
      subst (λ (l : List ℕ). AnsweredAlike l (encode sgr2 kind (status_of bs) (decode bs))) back (both-forms kind (status_of bs) (decode bs) stored-fits)
