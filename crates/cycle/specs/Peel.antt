-- Peeling a graph in slices. Assumes nothing.
use Rattle.std.specs.Prelude.{◌≡◌, Bool, ◌&&◌, ◌||◌, List, ℕ, ◌≤◌, ◌<◌, eqb, ltb, leb, length, get_or}
use Rattle.defs.specs.Lists.{rank}
use Rattle.defs.specs.Refusals.{has_cycle}
use Rattle.store.specs.Store.{graph_in, EndsBelow}
use Rattle.index.specs.Index.{edge_end, incident_edges}

-- a degree and a place in the queue for each of n vertices
pub record Peelable (n : ℕ) (degrees queue : List ℕ) : Type 0 where
  pub degrees-room : n ≤ length degrees
  pub queue-room : n ≤ length queue
  pub small : n < 4294967296

-- how many of the m edges enter each vertex
pub record DegreesCounted (m n : ℕ) (es degrees : List ℕ) : Type 0 where
  pub at : (v : ℕ) → v < n → get_or degrees v 0 ≡ length (incident_edges (edge_end 1 es) m v)

-- Whether an edge with number e from the vertex at place p still stands, when the vertices before place h have lost their edges and the one
-- at h those before number c.
unfoldable pub stands : ℕ → ℕ → ℕ → ℕ → Bool
stands h c p e = ltb h p || (eqb p h && leb c e)

-- the edge e enters v, and still stands
unfoldable pub entering : List ℕ → (ℕ → ℕ) → ℕ → ℕ → ℕ → ℕ → Bool
entering es place h c v e = eqb (edge_end 1 es e) v && stands h c (place (edge_end 0 es e)) e

-- The queue has `tail` vertices, each with its place; the others have a place past them all. The degrees count the edges that still stand.
-- An edge into a queued vertex comes from one with an earlier place.
pub record Queued (m n : ℕ) (es degrees queue : List ℕ) (place : ℕ → ℕ) (h c tail : ℕ) : Type 0 where
  pub high : h ≤ tail
  pub vertex : (i : ℕ) → i < tail → get_or queue i 0 < n
  pub placed : (i : ℕ) → i < tail → place (get_or queue i 0) ≡ i
  pub found : (v : ℕ) → v < n → place v < tail → get_or queue (place v) 0 ≡ v
  pub out : (v : ℕ) → v < n → tail ≤ place v → n ≤ place v
  pub count : (v : ℕ) → v < n → get_or degrees v 0 ≡ rank (entering es place h c v) m
  pub done : (v : ℕ) → v < n → place v < tail → get_or degrees v 0 ≡ 0
  pub order : (e : ℕ) → e < m → place (edge_end 1 es e) < tail → place (edge_end 0 es e) < place (edge_end 1 es e)

-- and each vertex that no standing edge enters is queued
pub record Peeling (m n : ℕ) (es degrees queue : List ℕ) (h c tail : ℕ) : Type 0 where
  pub place : ℕ → ℕ
  pub queued : Queued m n es degrees queue place h c tail
  pub zero : (v : ℕ) → v < n → get_or degrees v 0 ≡ 0 → place v < tail

-- the vertices of degree 0 are queued, whatever graph the degrees are of
pub record Sourced (n : ℕ) (degrees : List ℕ) (tail : ℕ) (queue : List ℕ) : Type 0 where
  pub is : (m : ℕ) (es : List ℕ) → EndsBelow n m es → DegreesCounted m n es degrees → Peeling m n es degrees queue 0 0 tail

pub record HasCycle (m n : ℕ) (es : List ℕ) (r : Bool) : Type 0 where
  pub is : (k : ℕ) (vs p : List ℕ) → r ≡ has_cycle (graph_in k n m es vs p)
