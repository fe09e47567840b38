-- One graph in a record of SGR1 and in one of SGR2: what is asked of it, and that every call judges both records alike and answers alike.
-- Assumes nothing.
use Rattle.std.specs.Prelude.{ℕ, ◌≤◌, ◌≡◌, List, length}
use Rattle.defs.specs.Forms.{sgr1, sgr2, form_of, limits}
use Rattle.defs.specs.SeqGraph.{Graph, node_count}
use Rattle.defs.specs.Simplify.{sequence_bytes}
use Rattle.defs.specs.Assembly.{from_assembly_graph}
use Rattle.defs.specs.Record.{RecordKind, record_kind_number, decode}
use Rattle.defs.specs.Refusals.{Takes, record_causes, record_refusal}
use Rattle.defs.specs.Calls.{Response, refused, accepted, number_of, vertex_sequence_number, vertex_sequence_part, conversion_causes}
use Rattle.defs.specs.Calls.{from_assembly_graph_response, from_assembly_graph_counted, simplify_graph_response, simplify_graph_answer, simplify_graph_counted}
use Rattle.defs.specs.Calls.{cleanup_seq_graph_response, cleanup_seq_graph_answer, cleanup_seq_graph_counted, clean_non_ref_paths_response, clean_non_ref_paths_counted}
use Rattle.defs.specs.Calls.{reference_path_bytes_response, reference_path_bytes_counted, path_bases_bytes_response, path_bases_bytes_counted}
use Rattle.codec.specs.Encodable.{Encodable}

-- What is asked of a graph: each of its numbers fits its field of SGR1, and its counts keep SGR1's limits of input, the bytes in kind 1. It need not
-- be sound: k may be past its limits, two edges may have the same ends, an edge may end at no vertex, there may be a cycle, in kind 0 a length other
-- than k. Such a graph is refused in both forms.
pub record SameGraphBothForms (kind : RecordKind) (g : Graph) : Type 0 where
  pub fits : Encodable sgr1 g
  pub vertices : node_count g ≤ (limits sgr1).vertices
  pub edges : length g.edges ≤ (limits sgr1).edges
  pub bytes : record_kind_number kind ≡ 1 → sequence_bytes g.verts ≤ (limits sgr1).bytes

-- What is promised of a record a of SGR1 and a record b of SGR2. They are read as the same graph, and each cause of a refusal is present in both or
-- in neither, whichever kinds a call takes; so both are refused with the same number, or neither is.
pub record JudgedAlike (a b : List ℕ) : Type 0 where
  pub graph : decode a ≡ decode b
  pub causes : (t : Takes) → record_causes t a ≡ record_causes t b
  pub refusal : (t : Takes) → record_refusal t a ≡ record_refusal t b

-- two records that hold one graph, one in each form
pub record OneGraph (r s : List ℕ) : Type 0 where
  pub first : form_of r ≡ sgr1
  pub second : form_of s ≡ sgr2
  pub graph : decode r ≡ decode s

-- neither answer is 11: there is room for the result of each form. The promises of the calls say what room is always enough.
pub record RoomForBoth (x y : Response) : Type 0 where
  pub first : number_of x ≡ 11 → ⊥
  pub second : number_of y ≡ 11 → ⊥

-- both calls refuse, with the same number, or both accept, and what they write holds one graph, each in the form of the record handed in
pub data WrittenAlike : Response → Response → Type 0 where
  both_refused : {n : ℕ} → WrittenAlike (refused n) (refused n)
  both_accepted : {r s : List ℕ} → OneGraph r s → WrittenAlike (accepted r) (accepted s)

-- Call by call, with room r for the answer to a and s for that to b: what is written, the result fields, and what the caller's tally counts.
pub record SimplifiedAlike (a b : List ℕ) (r s caller : ℕ) : Type 0 where
  pub answer : WrittenAlike (simplify_graph_response a r caller) (simplify_graph_response b s caller)
  pub rewrites : (simplify_graph_answer a r caller).rewrites ≡ (simplify_graph_answer b s caller).rewrites
  pub rounds : (simplify_graph_answer a r caller).rounds ≡ (simplify_graph_answer b s caller).rounds
  pub end : (simplify_graph_answer a r caller).end ≡ (simplify_graph_answer b s caller).end
  pub counted : simplify_graph_counted a r caller ≡ simplify_graph_counted b s caller

pub record CleanedAlike (a b : List ℕ) (r s caller : ℕ) : Type 0 where
  pub answer : WrittenAlike (cleanup_seq_graph_response a r caller) (cleanup_seq_graph_response b s caller)
  pub status : (cleanup_seq_graph_answer a r caller).status ≡ (cleanup_seq_graph_answer b s caller).status
  pub counted : cleanup_seq_graph_counted a r caller ≡ cleanup_seq_graph_counted b s caller

pub record ReducedAlike (a b : List ℕ) (r s caller : ℕ) : Type 0 where
  pub answer : WrittenAlike (clean_non_ref_paths_response a r caller) (clean_non_ref_paths_response b s caller)
  pub counted : clean_non_ref_paths_counted a r caller ≡ clean_non_ref_paths_counted b s caller

pub record ConvertedAlike (a b : List ℕ) (r s caller : ℕ) : Type 0 where
  pub answer : WrittenAlike (from_assembly_graph_response a r caller) (from_assembly_graph_response b s caller)
  pub counted : from_assembly_graph_counted a r caller ≡ from_assembly_graph_counted b s caller

-- the two string calls and the vertex call give the same bytes, whatever the room
pub record ReadAlike (a b : List ℕ) : Type 0 where
  pub reference : (room caller : ℕ) → reference_path_bytes_response a room caller ≡ reference_path_bytes_response b room caller
  pub reference-counted : (room caller : ℕ) → reference_path_bytes_counted a room caller ≡ reference_path_bytes_counted b room caller
  pub path : (start : ℕ) (edges : List ℕ) (room caller : ℕ)
      → path_bases_bytes_response a start edges room caller ≡ path_bases_bytes_response b start edges room caller
  pub path-counted : (start : ℕ) (edges : List ℕ) (room caller : ℕ)
      → path_bases_bytes_counted a start edges room caller ≡ path_bases_bytes_counted b start edges room caller
  pub vertex-number : (v : ℕ) → vertex_sequence_number a v ≡ vertex_sequence_number b v
  pub vertex-part : (v : ℕ) → vertex_sequence_part a v ≡ vertex_sequence_part b v

-- All calls. Conversion alone asks more: 8 goes by the form's own limit, so the converted graph must keep that of SGR1.
pub record AnsweredAlike (a b : List ℕ) : Type 0 where
  pub judged : JudgedAlike a b
  pub simplified : (r s caller : ℕ) → RoomForBoth (simplify_graph_response a r caller) (simplify_graph_response b s caller) → SimplifiedAlike a b r s caller
  pub cleaned : (r s caller : ℕ) → RoomForBoth (cleanup_seq_graph_response a r caller) (cleanup_seq_graph_response b s caller) → CleanedAlike a b r s caller
  pub reduced : (r s caller : ℕ) → RoomForBoth (clean_non_ref_paths_response a r caller) (clean_non_ref_paths_response b s caller)
      → ReducedAlike a b r s caller
  pub conversion : sequence_bytes (from_assembly_graph (decode a)).verts ≤ (limits sgr1).bytes → conversion_causes a ≡ conversion_causes b
  pub converted : sequence_bytes (from_assembly_graph (decode a)).verts ≤ (limits sgr1).bytes → (r s caller : ℕ)
      → RoomForBoth (from_assembly_graph_response a r caller) (from_assembly_graph_response b s caller) → ConvertedAlike a b r s caller
  pub read : ReadAlike a b
