-- The graphs that a record of a form can hold: every number fits its field.
-- Assumes nothing.
use Rattle.std.specs.Prelude.{ℕ, ◌<◌, ◌≤◌, length}
use mathlib.Core.List.{List, Memᴰ}
use Rattle.defs.specs.Forms.{Form, limits}
use Rattle.defs.specs.SeqGraph.{Edge, Graph, node_count}
use Rattle.defs.specs.Simplify.{sequence_bytes}
use Rattle.form.specs.Coded.{word_limit}

pub record EncodableEdge (f : Form) (e : Edge) : Type 0 where
  pub from : e.from < word_limit f
  pub to : e.to < word_limit f
  pub support : e.support < 4294967296

pub record Encodable (f : Form) (g : Graph) : Type 0 where
  pub k : g.k < 65536
  pub vertices : node_count g < word_limit f
  pub edges : length g.edges < word_limit f
  pub bytes : sequence_bytes g.verts < 4294967296
  pub lengths : (s : List ℕ) → Memᴰ s g.verts → length s < word_limit f
  pub each : (e : Edge) → Memᴰ e g.edges → EncodableEdge f e

-- The graphs within the limits of input and answers. A length is at most the limit of bytes: in a k-mer graph it is k, in a sequence graph a part
-- of so many bytes. A k-mer graph may have more bytes in all, 128 for each vertex.
pub record WithinEdge (g : Graph) (e : Edge) : Type 0 where
  pub from : e.from < node_count g
  pub to : e.to < node_count g
  pub support : e.support < 4294967296

pub record WithinAnswer (f : Form) (g : Graph) : Type 0 where
  pub k : g.k ≤ 128
  pub vertices : node_count g ≤ (limits f).answer_vertices
  pub edges : length g.edges ≤ (limits f).answer_edges
  pub bytes : sequence_bytes g.verts < 4294967296
  pub lengths : (s : List ℕ) → Memᴰ s g.verts → length s ≤ (limits f).bytes
  pub each : (e : Edge) → Memᴰ e g.edges → WithinEdge g e
