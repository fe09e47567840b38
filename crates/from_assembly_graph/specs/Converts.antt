-- The promise of from_assembly_graph, and the room that it takes. Assumes nothing.
use Rattle.std.specs.Prelude.{◌≡◌, Ok, List, ℕ, ◌*◌, ◌≤◌, length, take}
use Rattle.defs.specs.Forms.{form_of}
use Rattle.defs.specs.Record.{decode}
use Rattle.defs.specs.Assembly.{from_assembly_graph, SourcesHoldKmers, RunsAreKmers}
use Rattle.defs.specs.Calls.{Response, written_of, respond, conversion_causes, converted_record, from_assembly_graph_response, from_assembly_graph_answer}
use Rattle.reread.specs.Reread.{input_length, ReacceptedAs}
use Rattle.memory.specs.declared.Held.{Held}
use Rattle.read_kmers.specs.Kmers.{overlapping_causes, KmersRead}
use Rattle.from_kmers.specs.Conversion.{RoomToConvert}
use Rattle.calls.specs.Answers.{answer_of}
use Rattle.calls.specs.Sending.{with_output}
use Rattle.calls.specs.declared.Answer.{Answer}

-- For any bytes bs, any lent output and any caller: the answer and the output at exit are the definition's. 49,184 bytes of output are room
-- enough, for a record of SGR2 1,114,148; the record written is of the form of the one handed in, is read back as the converted graph and keeps the
-- limits of input; handed in again, it is accepted. In the graph written a source holds the whole k-mer of the record handed in, every other vertex
-- its last byte; and each run of k bytes of every string that it spells from end to end is one of that record's k-mers.
pub record Converts (bs out : List ℕ) (caller : ℕ) (r : Answer) (out' : List ℕ) : Type 0 where
  pub answer : answer_of r ≡ from_assembly_graph_answer bs (length out) caller
  pub written : out' ≡ written_of (from_assembly_graph_response bs (length out) caller) out
  pub room : input_length (form_of bs) ≤ length out → r.number ≡ 11 → ⊥
  pub reaccepted : r.number ≡ 0 → ReacceptedAs (form_of bs) (from_assembly_graph (decode bs)) (take r.length out')
  pub sources : r.number ≡ 0 → SourcesHoldKmers (decode bs) (decode (take r.length out'))
  pub runs : r.number ≡ 0 → RunsAreKmers (decode bs) (decode (take r.length out'))

-- the response by the causes but for 18
abbrev pub conversion_response : List ℕ → ℕ → Response
conversion_response bs room = respond (with_output (conversion_causes bs) room (converted_record bs)) (converted_record bs)

-- the k-mer graph that was read of a record, and room to convert it
pub record HeldToConvert (bs : List ℕ) (h : Held) (es vs heads nexts order scratch place sorted : List ℕ) : Type 0 where
  pub read : KmersRead (overlapping_causes bs) bs (Ok h) es vs heads nexts order
  pub room : RoomToConvert bs es vs heads nexts order scratch place sorted

-- The lengths of arrays for v vertices and e edges. Numbers of vertices, then of edges, of which there may be more, stand in `order` and `scratch`.
pub record SizedToReadKmers (v e : ℕ) (es vs heads nexts order scratch place : List ℕ) : Type 0 where
  pub es-is : length es ≡ 4 * e
  pub vs-is : length vs ≡ 2 * v
  pub heads-is : length heads ≡ 2 * v
  pub nexts-is : length nexts ≡ 2 * e
  pub order_is : length order ≡ e
  pub scratch-is : length scratch ≡ e
  pub place_is : length place ≡ v

-- the same, with the edges once more, sorted
pub record SizedToConvert (v e : ℕ) (es vs heads nexts order scratch place sorted : List ℕ) : Type 0 where
  pub reading : SizedToReadKmers v e es vs heads nexts order scratch place
  pub sorted-is : length sorted ≡ 4 * e
