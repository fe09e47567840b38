-- A record's text. Assumes nothing.
use Rattle.std.specs.Prelude.{◌≡◌, List, ◌++◌, ℕ, zero, suc, ◌*◌, ◌≤◌, length, take, drop}
use Rattle.defs.specs.Simplify.{Simplified, sequence_bytes, end_number}
use Rattle.defs.specs.Forms.{form_of, limits}
use Rattle.defs.specs.Record.{sequence_graph, k_of, vertices_of, edges_of, encode, decode}
use Rattle.load.specs.Loaded.{Laid}
use Rattle.calls.specs.declared.SimplifyAnswer.{SimplifyAnswer}
use Rattle.text.specs.Printed.{printed_graph, printed_refusal, shown}
use Rattle.text.specs.Put.{TextPut}

-- the record of an answer, of at most 65,536 bytes; its counts may be past the limits of input
pub record Recorded (bs : List ℕ) : Type 0 where
  pub laid : Laid bs
  pub is : bs ≡ encode (form_of bs) sequence_graph 0 (decode bs)
  pub k-least : 2 ≤ k_of bs
  pub k-most : k_of bs ≤ 128
  pub vertices : vertices_of bs ≤ (limits (form_of bs)).answer_vertices
  pub bytes : sequence_bytes (decode bs).verts ≤ (limits (form_of bs)).bytes
  pub short : length bs ≤ 65536

-- at most v vertices and e edges
pub record FewShown (v e : ℕ) (bs : List ℕ) : Type 0 where
  pub vertices : vertices_of bs ≤ v
  pub edges : edges_of bs ≤ e

-- arrays for as many
pub record SizedToShow (v e : ℕ) (es vs : List ℕ) : Type 0 where
  pub es-is : length es ≡ 4 * e
  pub vs-is : length vs ≡ 2 * v

-- the record is that of the simplification z, and the answer counted what z did
pub record RecordOf (z : Simplified) (made : SimplifyAnswer) (bs : List ℕ) : Type 0 where
  pub graph : decode bs ≡ z.graph
  pub rewrites : made.rewrites ≡ z.rewrites
  pub rounds : made.rounds ≡ z.rounds
  pub end : made.end ≡ end_number z.end

-- the text of the simplification that the record is of
pub record GraphPut (made : SimplifyAnswer) (bs text : List ℕ) (r : ℕ) (text' : List ℕ) : Type 0 where
  pub is : (z : Simplified) → RecordOf z made bs → TextPut 344000 (printed_graph z) text 0 r text'

-- where an answer was given its record stands at the front
pub record Printing (made : SimplifyAnswer) (out : List ℕ) : Type 0 where
  pub inside : made.length ≤ length out
  pub recorded : made.number ≡ 0 → Recorded (take made.length out)

-- the text of a simplified graph, or of the refusal with this number
unfoldable pub answer_text : ℕ → Simplified → List ℕ
answer_text zero z = printed_graph z
answer_text (suc n) z = printed_refusal (suc n)

pub record AnswerPut (made : SimplifyAnswer) (out text : List ℕ) (r : ℕ) (text' : List ℕ) : Type 0 where
  pub is : (z : Simplified) → (made.number ≡ 0 → RecordOf z made (take made.length out)) → TextPut 344000 (answer_text made.number z) text 0 r text'

-- the text stands at the front, r bytes long; the rest is as it was
pub record Shown (bs text : List ℕ) (r : ℕ) (text' : List ℕ) : Type 0 where
  pub long : r ≡ length (shown bs)
  pub is : text' ≡ shown bs ++ drop r text
