-- The graph of a record in the slices: its edges and where each sequence lies, in the record itself or in a pool. Assumes nothing.
use Rattle.std.specs.Prelude.{◌≡◌, List, ℕ, ◌+◌, ◌*◌, ◌≤◌, ◌<◌, length, get_or}
use Rattle.defs.specs.Lists.{tab, sum}
use Rattle.defs.specs.Forms.{form_of}
use Rattle.defs.specs.Record.{vertices_of, edges_of, bytes_of, k_of, whole_length, length_at, edge_at, decode}
use Rattle.store.specs.Store.{edge_in, seqs_in, EndsBelow, Within}
use Rattle.memory.specs.Memory.{graph_of}
use Rattle.memory.specs.declared.Held.{Held}

-- a record whose parts lie where its counts say and whose edges end at its vertices, whatever the limits
pub record Laid (bs : List ℕ) : Type 0 where
  pub whole : length bs ≡ whole_length (form_of bs) (vertices_of bs) (edges_of bs) (bytes_of bs)
  pub small : length bs < 4294967296
  pub lengths : sum (tab (vertices_of bs) (length_at bs)) ≡ bytes_of bs
  pub ends : (i : ℕ) → i < edges_of bs → ((edge_at bs i).from < vertices_of bs) × ((edge_at bs i).to < vertices_of bs)

-- the first m edges of the record
pub record EdgesRead (bs : List ℕ) (m : ℕ) (es : List ℕ) : Type 0 where
  pub at : (i : ℕ) → i < m → edge_in es i ≡ edge_at bs i

-- the first n vertices: the first sequence starts at `at`, each other one behind those before it
pub record VerticesRead (bs : List ℕ) (at n : ℕ) (vs : List ℕ) : Type 0 where
  pub starts : (i : ℕ) → i < n → get_or vs (2 * i) 0 ≡ at + sum (tab i (length_at bs))
  pub sizes : (i : ℕ) → i < n → get_or vs (2 * i + 1) 0 ≡ length_at bs i

-- b bytes of the record from `at` on
pub record BytesRead (bs : List ℕ) (at b : ℕ) (p : List ℕ) : Type 0 where
  pub is : (i : ℕ) → i < b → get_or p i 0 ≡ get_or bs (at + i) 0

-- a record, and room for its edges and vertices
pub record Loadable (bs es vs : List ℕ) : Type 0 where
  pub laid : Laid bs
  pub es-room : 4 * edges_of bs ≤ length es
  pub vs-room : 2 * vertices_of bs ≤ length vs

-- the slices hold the graph that the record is read as, with the record as the pool
pub record Loaded (bs : List ℕ) (r : Held) (es vs : List ℕ) : Type 0 where
  pub is : graph_of r es vs bs ≡ decode bs
  pub k : r.k.0 ≡ k_of bs
  pub n : r.n ≡ vertices_of bs
  pub m : r.m ≡ edges_of bs
  pub within : Within (length bs) r.n vs
  pub ends : EndsBelow r.n r.m es

-- a record with the counts of a held graph, and room for its vertices and bytes
pub record Poolable (bs : List ℕ) (h : Held) (vs p : List ℕ) : Type 0 where
  pub laid : Laid bs
  pub n : h.n ≡ vertices_of bs
  pub m : h.m ≡ edges_of bs
  pub vs-room : 2 * vertices_of bs ≤ length vs
  pub p-room : bytes_of bs ≤ length p

-- the record's sequences stand in the pool, from its front on; the counts are those of the held graph
pub record SequencesPooled (bs : List ℕ) (h r : Held) (vs p : List ℕ) : Type 0 where
  pub is : seqs_in r.n vs p ≡ (decode bs).verts
  pub k : r.k ≡ h.k
  pub n : r.n ≡ h.n
  pub m : r.m ≡ h.m
  pub used : r.used ≡ bytes_of bs
  pub within : Within r.used r.n vs
