-- The graphs whose records are accepted, or refused with 3 and nothing else. Assumes nothing.
use Rattle.std.specs.Prelude.{◌≡◌, ℕ, ◌<◌, ◌≤◌, length}
use mathlib.Core.List.{List, Memᴰ}
use Rattle.defs.specs.Forms.{Form, limits}
use Rattle.defs.specs.SeqGraph.{Edge, Graph, node_count}
use Rattle.defs.specs.Simplify.{sequence_bytes}
use Rattle.defs.specs.Record.{RecordKind, record_kind_number, whole_length}
use Rattle.laws.proofs.Fuel.{Good}
use Rattle.sound.specs.Alike.{SameKmers}
use Rattle.codec.specs.Encodable.{Encodable}

-- what kind 0 asks: each vertex has k bytes, no two have the same, and the status is 0
pub record KmerVertices (status : ℕ) (g : Graph) : Type 0 where
  pub sizes : (s : List ℕ) → Memᴰ s g.verts → length s ≡ g.k
  pub distinct : SameKmers g → ⊥
  pub status-none : status ≡ 0

-- a graph and a status that a record of this form and kind can hold, and that no cause but 3 refuses
pub record Recordable (f : Form) (kind : RecordKind) (status : ℕ) (g : Graph) : Type 0 where
  pub encodable : Encodable f g
  pub whole : whole_length f (node_count g) (length g.edges) (sequence_bytes g.verts) < 4294967296
  pub good : Good g
  pub status-most : status ≤ 2
  pub kmers : record_kind_number kind ≡ 0 → KmerVertices status g

-- a sound sequence graph within the limits of answers
pub record SequenceAnswer (f : Form) (g : Graph) : Type 0 where
  pub good : Good g
  pub k-least : 2 ≤ g.k
  pub k-most : g.k ≤ 128
  pub vertices : node_count g ≤ (limits f).answer_vertices
  pub edges : length g.edges ≤ (limits f).answer_edges
  pub bytes : sequence_bytes g.verts ≤ (limits f).bytes
  pub supports : (e : Edge) → Memᴰ e g.edges → e.support < 4294967296

-- a sound sequence graph within the limits of input
pub record SequenceInput (f : Form) (g : Graph) : Type 0 where
  pub good : Good g
  pub k-least : 2 ≤ g.k
  pub k-most : g.k ≤ 128
  pub vertices : node_count g ≤ (limits f).vertices
  pub edges : length g.edges ≤ (limits f).edges
  pub bytes : sequence_bytes g.verts ≤ (limits f).bytes
  pub supports : (e : Edge) → Memᴰ e g.edges → e.support < 4294967296

-- a sound k-mer graph within the limits of input
pub record KmerInput (f : Form) (g : Graph) : Type 0 where
  pub good : Good g
  pub k-least : 2 ≤ g.k
  pub k-most : g.k ≤ 128
  pub vertices : node_count g ≤ (limits f).vertices
  pub edges : length g.edges ≤ (limits f).edges
  pub kmers : KmerVertices 0 g
  pub supports : (e : Edge) → Memᴰ e g.edges → e.support < 4294967296
