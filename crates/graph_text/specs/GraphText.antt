-- The text of a held graph, and the room that it needs. Assumes nothing.
use Rattle.std.specs.Prelude.{cond, ◌≡◌, List, ◌++◌, ℕ, ◌+◌, ◌*◌, ◌≤◌, ◌<◌, eqb, length, get_or}
use Rattle.defs.specs.Simplify.{End, quiet, repeated, full, Simplified}
use Rattle.store.specs.Store.{Within}
use Rattle.pool.specs.Pool.{bytes_in}
use Rattle.memory.specs.Memory.{graph_of}
use Rattle.memory.specs.declared.Held.{Held}
use Rattle.text.specs.Printed.{first_line, second_line, printed_graph}
use Rattle.text.specs.Put.{TextPut}

-- the end that a number stands for: 1 quiet, 2 repeated, 3 full
unfoldable pub end_with_number : ℕ → End
end_with_number n = cond (eqb n 1) quiet (cond (eqb n 2) repeated full)

-- the simplification whose graph is held
abbrev pub simplified_in : Held → ℕ → ℕ → ℕ → List ℕ → List ℕ → List ℕ → Simplified
simplified_in h rewrites rounds end es vs p = record { graph = graph_of h es vs p; rewrites = rewrites; rounds = rounds; end = end_with_number end }

-- how long a vertex's sequence is
abbrev pub size_in : List ℕ → ℕ → ℕ
size_in vs v = get_or vs (2 * v + 1) 0

-- a vertex with its sequence in the pool, and room for its line
pub record VertexFits (vs p : List ℕ) (v : ℕ) (text : List ℕ) (at : ℕ) : Type 0 where
  pub vs-room : 2 * v + 2 ≤ length vs
  pub within : get_or vs (2 * v) 0 + size_in vs v ≤ length p
  pub room : at + 15 + 4 * size_in vs v ≤ length text

-- at most so many bytes of text for the first n vertices, and for the whole graph
abbrev pub vertices_most : ℕ → List ℕ → ℕ
vertices_most n vs = 15 * n + 4 * bytes_in n vs

abbrev pub graph_most : Held → List ℕ → ℕ
graph_most h vs = 138 + vertices_most h.n vs + 38 * h.m

pub record VerticesFit (n : ℕ) (vs p text : List ℕ) (at : ℕ) : Type 0 where
  pub vs-room : 2 * n ≤ length vs
  pub within : Within (length p) n vs
  pub small : n < 65536
  pub room : at + vertices_most n vs ≤ length text

pub record EdgeLinesFit (m : ℕ) (es text : List ℕ) (at : ℕ) : Type 0 where
  pub es-room : 4 * m ≤ length es
  pub room : at + 38 * m ≤ length text

-- counts that fit 16 bits, and room for the first two lines
pub record HeadFits (h : Held) (b : ℕ) (text : List ℕ) : Type 0 where
  pub n-fits : h.n < 65536
  pub m-fits : h.m < 65536
  pub bytes_fit : b < 4294967296
  pub room : 138 ≤ length text

-- a held graph whose counts fit 16 bits, and room for its text
pub record Printable (h : Held) (es vs p text : List ℕ) : Type 0 where
  pub n-fits : h.n < 65536
  pub m-fits : h.m < 65536
  pub bytes_fit : bytes_in h.n vs < 4294967296
  pub es-room : 4 * h.m ≤ length es
  pub vs-room : 2 * h.n ≤ length vs
  pub within : Within (length p) h.n vs
  pub room : graph_most h vs ≤ length text

-- the lines of its vertices and edges; behind the first two lines they are the text of the graph
pub record LinesPut (h : Held) (es vs p text : List ℕ) (at r : ℕ) (text' : List ℕ) : Type 0 where
  pub is : (rewrites rounds end : ℕ) {b : ℕ} {text₀ : List ℕ} → b ≡ bytes_in h.n vs
      → TextPut 138 (first_line h.k.0 h.n h.m b ++ second_line rewrites rounds (end_with_number end)) text₀ 0 at text
      → TextPut (graph_most h vs) (printed_graph (simplified_in h rewrites rounds end es vs p)) text₀ 0 r text'
