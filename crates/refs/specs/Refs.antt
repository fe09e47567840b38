-- The answers of the reference tests, whatever k, the vertices and the pool. Assumes nothing.
use Rattle.std.specs.Prelude.{Some, None, ◌≡◌, Bool, List, ℕ, ◌+◌, ◌*◌, get_or}
use Rattle.std.proofs.Math.Option.{Option, none, some}
use Rattle.defs.specs.SeqGraph.{is_reference_node, is_ref_source, is_ref_sink}
use Rattle.defs.specs.Cleanup.{reference_source_vertex, reference_sink_vertex}
use Rattle.defs.specs.Record.{flag_is_ref}
use Rattle.store.specs.Store.{graph_in}
use Rattle.std.specs.Prelude as prelude

-- whether edge e is a reference edge
abbrev pub ref_at : List ℕ → ℕ → Bool
ref_at es e = flag_is_ref (get_or es (4 * e + 3) 0)

pub record RefNode (m n : ℕ) (es : List ℕ) (v : ℕ) (r : Bool) : Type 0 where
  pub is : (k : ℕ) (vs p : List ℕ) → r ≡ is_reference_node (graph_in k n m es vs p) v

pub record RefSource (m n : ℕ) (es : List ℕ) (v : ℕ) (r : Bool) : Type 0 where
  pub is : (k : ℕ) (vs p : List ℕ) → r ≡ is_ref_source (graph_in k n m es vs p) v

pub record RefSink (m n : ℕ) (es : List ℕ) (v : ℕ) (r : Bool) : Type 0 where
  pub is : (k : ℕ) (vs p : List ℕ) → r ≡ is_ref_sink (graph_in k n m es vs p) v

-- a vertex, or none
abbrev pub vertex_of : prelude.Option ℕ → Option ℕ
vertex_of (Some v) = some v
vertex_of None = none

-- the first reference source, and the first reference sink
pub record FirstSource (m n : ℕ) (es : List ℕ) (r : prelude.Option ℕ) : Type 0 where
  pub is : (k : ℕ) (vs p : List ℕ) → vertex_of r ≡ reference_source_vertex (graph_in k n m es vs p)

pub record FirstSink (m n : ℕ) (es : List ℕ) (r : prelude.Option ℕ) : Type 0 where
  pub is : (k : ℕ) (vs p : List ℕ) → vertex_of r ≡ reference_sink_vertex (graph_in k n m es vs p)
