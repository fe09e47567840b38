-- What is left of a graph in slices when vertices go. Assumes nothing.
use Rattle.std.specs.Prelude.{◌≡◌, Bool, not, ◌&&◌, List, ℕ, ◌≤◌, ◌<◌, eqb}
use Rattle.defs.specs.SeqGraph.{Graph, in_degree, out_degree, is_ref_source}
use Rattle.store.specs.Store.{graph_in, EndsBelow, Within}
use Rattle.compact.specs.Compact.{unmarked}
use Rattle.memory.specs.Memory.{graph_of}
use Rattle.memory.specs.declared.Held.{Held}

-- a lone vertex that is no reference source
unfoldable pub is_orphan : Graph → ℕ → Bool
is_orphan g v = eqb (in_degree g v) 0 && (eqb (out_degree g v) 0 && not (is_ref_source g v))

pub record Orphan (m n : ℕ) (es : List ℕ) (v : ℕ) (r : Bool) : Type 0 where
  pub is : (k : ℕ) (vs p : List ℕ) → r ≡ is_orphan (graph_in k n m es vs p) v

pub record OrphansMarked (m n : ℕ) (es mp : List ℕ) : Type 0 where
  pub at : (k : ℕ) (vs p : List ℕ) (v : ℕ) → v < n → unmarked mp v ≡ not (is_orphan (graph_in k n m es vs p) v)

-- The slices hold what f makes of the graph that they held, whatever the pool: fewer vertices and edges, at most, and the same pool.
pub record Reduced (f : Graph → Graph) (h : Held) (es vs : List ℕ) (r : Held) (es' vs' : List ℕ) : Type 0 where
  pub is : (p : List ℕ) → graph_of r es' vs' p ≡ f (graph_of h es vs p)
  pub most-n : r.n ≤ h.n
  pub most-m : r.m ≤ h.m
  pub ends : EndsBelow r.n r.m es'
  pub within : (used : ℕ) → Within used h.n vs → Within used r.n vs'
  pub used-is : r.used ≡ h.used
