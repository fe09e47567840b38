-- The empty second vertex of a single one. Assumes nothing.
use Rattle.std.specs.Prelude.{◌≡◌, List, ℕ}
use Rattle.defs.specs.Cleanup.{with_dummy_vertex}
use Rattle.store.specs.Store.{Within}
use Rattle.memory.specs.Memory.{graph_of}
use Rattle.memory.specs.declared.Held.{Held}

pub record DummyAdded (h : Held) (es vs : List ℕ) (r : Held) (es' vs' : List ℕ) : Type 0 where
  pub is : (p : List ℕ) → graph_of r es' vs' p ≡ with_dummy_vertex (graph_of h es vs p)
  pub within : (used : ℕ) → Within used h.n vs → Within used r.n vs'
  pub used-is : r.used ≡ h.used
