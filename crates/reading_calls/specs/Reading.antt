-- The calls that read a graph: their responses, and what is sent for a graph that is held. Assumes nothing.
use Rattle.std.specs.Prelude.{◌≡◌, List, [], ◌∷◌, ◌++◌, ℕ, ◌≤◌, ◌<◌, length, Option, Some, None}
use Rattle.defs.specs.Simplify.{sequence_bytes}
use Rattle.defs.specs.Forms.{form_of, limits}
use Rattle.defs.specs.Record.{decode}
use Rattle.defs.specs.Refusals.{sequence_only, record_causes, record_refusal}
use Rattle.defs.specs.Calls.{Response, respond, reduced_record, reference_cause, reference_bytes, path_cause, path_bytes}
use Rattle.defs.specs.Calls.{clean_non_ref_paths_response, reference_path_bytes_response, path_bases_bytes_response}
use Rattle.compact.specs.Compact.{Compactable}
use Rattle.index.specs.Index.{Indexable}
use Rattle.memory.specs.Memory.{graph_of}
use Rattle.memory.specs.declared.Held.{Held}
use Rattle.paths.specs.Paths.{Spellable}
use Rattle.reach.specs.Reach.{Walkable}
use Rattle.calls.specs.Sending.{with_output, Responds}
use Rattle.calls.specs.declared.Answer.{Answer}
use Rattle.reading_calls.specs.declared.ReadingCall.{ReadingCall}
use Rattle.reading_calls.specs.declared.ReadingCall.TheVariants.{CleanNonRefPaths, ReferencePathBytes, PathBasesBytes}

-- the response of a call by its causes but for 18, from its record and the room
unfoldable pub cleaning_response : List ℕ → ℕ → Response
cleaning_response bs room = respond (with_output (record_causes sequence_only bs) room (reduced_record bs)) (reduced_record bs)

unfoldable pub reference_response : List ℕ → ℕ → Response
reference_response bs room = respond (with_output (record_causes sequence_only bs ++ (reference_cause bs ∷ [])) room (reference_bytes bs)) (reference_bytes bs)

unfoldable pub path_response : ℕ → List ℕ → List ℕ → ℕ → Response
path_response start list bs room =
    respond (with_output (record_causes sequence_only bs ++ (path_cause bs start list ∷ [])) room (path_bytes bs start list)) (path_bytes bs start list)

unfoldable pub reading_response : ReadingCall → List ℕ → List ℕ → ℕ → Response
reading_response CleanNonRefPaths list = cleaning_response
reading_response ReferencePathBytes list = reference_response
reading_response (PathBasesBytes start) list = path_response start list

-- and to a caller
unfoldable pub reading_response_to : ReadingCall → List ℕ → List ℕ → ℕ → ℕ → Response
reading_response_to CleanNonRefPaths list bs room caller = clean_non_ref_paths_response bs room caller
reading_response_to ReferencePathBytes list bs room caller = reference_path_bytes_response bs room caller
reading_response_to (PathBasesBytes start) list bs room caller = path_bases_bytes_response bs start list room caller

-- the number for none; 11 for bytes that the room is too short for; else their length
pub record Tells (told : Option ℕ) (room missing : ℕ) (s : Answer) : Type 0 where
  pub none : told ≡ None → s ≡ record { number = missing; length = 0 }
  pub short : (n : ℕ) → told ≡ Some n → room < n → s ≡ record { number = 11; length = 0 }
  pub whole : (n : ℕ) → told ≡ Some n → n ≤ room → s ≡ record { number = 0; length = n }

-- a held graph that can be indexed and its paths spelled
pub record Tellable (h : Held) (es vs p heads nexts nodes : List ℕ) : Type 0 where
  pub indexable : Indexable h.m h.n es heads nexts
  pub spellable : Spellable h es vs p nodes
  pub few : sequence_bytes (graph_of h es vs p).verts < 4294967296

-- and that can be cleaned and its record written: the graph of the record p
pub record Answerable (h : Held) (es vs p heads nexts nodes mp tried : List ℕ) : Type 0 where
  pub tellable : Tellable h es vs p heads nexts nodes
  pub compactable : Compactable h.n h.m es vs mp
  pub walkable : Walkable h.n tried nodes
  pub vertices : h.n ≤ (limits (form_of p)).vertices
  pub edges : h.m ≤ (limits (form_of p)).edges
  pub bytes : sequence_bytes (graph_of h es vs p).verts ≤ (limits (form_of p)).bytes

-- what is sent responds, for every accepted record of the held graph that has the form of p
pub record GraphAnswered (f : List ℕ → ℕ → Response) (h : Held) (es vs p out : List ℕ) (s : Answer) (out' : List ℕ) : Type 0 where
  pub is : (bs : List ℕ) → form_of p ≡ form_of bs → record_refusal sequence_only bs ≡ 0 → graph_of h es vs p ≡ decode bs
      → Responds (f bs (length out)) out s out'
