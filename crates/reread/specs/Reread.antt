-- What every promise says of the record that its call has written, if it is handed in again. Assumes nothing.
use Rattle.std.specs.Prelude.{◌≡◌, Bool, cond, ◌||◌, List, ℕ, ◌≤◌, ltb, length}
use Rattle.defs.specs.Forms.{Form, sgr1, sgr2, form_of, limits}
use Rattle.defs.specs.SeqGraph.{Graph, node_count}
use Rattle.defs.specs.Simplify.{sequence_bytes}
use Rattle.defs.specs.Record.{decode}
use Rattle.defs.specs.Refusals.{sequence_only, both_kinds, record_refusal}

-- the longest record of an answer, by its form: 32 + 2 · 10,240 + 9 · 16,384 + 8,192 and 36 + 4 · 163,840 + 13 · 262,144 + 131,072
unfoldable pub answer_length : Form → ℕ
answer_length sgr1 = 176160
answer_length sgr2 = 4194340

-- and of a graph within the limits of input: 32 + 2 · 2,048 + 9 · 4,096 + 8,192 and 36 + 4 · 32,768 + 13 · 65,536 + 131,072
unfoldable pub input_length : Form → ℕ
input_length sgr1 = 49184
input_length sgr2 = 1114148

-- more vertices or edges than a record handed in may have
unfoldable pub past_input_count : Form → Graph → Bool
past_input_count f g = ltb (limits f).vertices (node_count g) || ltb (limits f).edges (length g.edges)

-- The record r is of the form f, and is read as the graph g, which keeps the form's limits of answers. Where g has more vertices or edges than input
-- may have, every call that takes sequence graphs refuses r with 3; else they all accept it.
pub record RereadAs (f : Form) (g : Graph) (r : List ℕ) : Type 0 where
  pub form : form_of r ≡ f
  pub graph : decode r ≡ g
  pub vertices : node_count g ≤ (limits f).answer_vertices
  pub edges : length g.edges ≤ (limits f).answer_edges
  pub bytes : sequence_bytes g.verts ≤ (limits f).bytes
  pub size : length r ≤ answer_length f
  pub refusal : record_refusal sequence_only r ≡ cond (past_input_count f g) 3 0
  pub refusal-both : record_refusal both_kinds r ≡ cond (past_input_count f g) 3 0

-- The record r is of the form f, and is read as the graph g, which keeps the form's limits of input: every call that takes sequence graphs accepts r.
pub record ReacceptedAs (f : Form) (g : Graph) (r : List ℕ) : Type 0 where
  pub form : form_of r ≡ f
  pub graph : decode r ≡ g
  pub vertices : node_count g ≤ (limits f).vertices
  pub edges : length g.edges ≤ (limits f).edges
  pub bytes : sequence_bytes g.verts ≤ (limits f).bytes
  pub size : length r ≤ input_length f
  pub refusal : record_refusal sequence_only r ≡ 0
  pub refusal-both : record_refusal both_kinds r ≡ 0
