-- Edges that go because a walk along edges that are not reference edges took them. Assumes nothing.
use Rattle.std.specs.Prelude.{◌≡◌, Bool, true, not, ◌&&◌, List, ℕ, ◌≤◌, get_or}
use Rattle.defs.specs.Lists.{keep_if, elem_of}
use Rattle.defs.specs.SeqGraph.{Edge, Graph}
use Rattle.defs.specs.Cleanup.{reached}
use Rattle.store.specs.Store.{is_set, edges_in, graph_in, EndsBelow}
use Rattle.reach.specs.Reach.{walk_step}
use Rattle.index.specs.Index.{end_at}

-- a reference edge stays, and one whose end has no mark
unfoldable pub stays_by : ℕ → List ℕ → Edge → Bool
stays_by off marks e = not (not e.is_ref && is_set (get_or marks (end_at off e) 0))

pub record EdgesKept (off n m : ℕ) (es marks : List ℕ) (r : ℕ) (es' : List ℕ) : Type 0 where
  pub most : r ≤ m
  pub is : edges_in r es' ≡ keep_if (stays_by off marks) (edges_in m es)
  pub ends : EndsBelow n r es'

-- The edge e is no reference edge, and a walk from s that takes none takes it: kind 1 against the edges, kind 0 along them.
unfoldable pub leads : ℕ → Graph → ℕ → Edge → Bool
leads kind g s e = not e.is_ref && elem_of (end_at kind e) (reached (walk_step true kind) g s)

-- the edges that are left, whatever k and the sequences
pub record EdgesDropped (kind m n : ℕ) (es : List ℕ) (s r : ℕ) (es' : List ℕ) : Type 0 where
  pub most : r ≤ m
  pub is : (k : ℕ) (vs p : List ℕ) → edges_in r es' ≡ keep_if (λ (e : Edge). not (leads kind (graph_in k n m es vs p) s e)) (edges_in m es)
