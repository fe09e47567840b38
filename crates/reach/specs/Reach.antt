-- Walks along the edges of a graph in slices, and their marks. Assumes nothing.
use Rattle.std.specs.Prelude.{◌≡◌, Bool, true, false, not, ◌&&◌, List, [], ℕ, zero, suc, ◌-◌, ◌≤◌, ◌<◌, eqb, length, get_or}
use Rattle.defs.specs.Lists.{elem_of}
use Rattle.defs.specs.SeqGraph.{Edge, Graph}
use Rattle.defs.specs.Cleanup.{forward, backward, either, reached}
use Rattle.laws.proofs.Reach.{Hop, Way}
use Rattle.store.specs.Store.{is_set, graph_in}
use Rattle.index.specs.Index.{edge_end}
use Rattle.refs.specs.Refs.{ref_at}
use Rattle.reach.specs.declared.Direction.{Direction}
use Rattle.reach.specs.declared.Direction.TheVariants.{Along, Against, Either}

-- the number of a direction
abbrev pub direction_number : Direction → ℕ
direction_number Along = 0
direction_number Against = 1
direction_number Either = 2

-- the kinds of walks: 0 along the edges, 1 against them, any other number either way
unfoldable pub step_of : ℕ → Edge → ℕ → ℕ → Bool
step_of zero e u v = forward e u v
step_of (suc zero) e u v = backward e u v
step_of (suc (suc n)) e u v = either e u v

-- a plain walk takes no reference edge
unfoldable pub walk_step : Bool → ℕ → Edge → ℕ → ℕ → Bool
walk_step true kind e u v = not e.is_ref && step_of kind e u v
walk_step false kind e u v = step_of kind e u v

-- a mark and a place in the queue for each of n vertices
pub record Walkable (n : ℕ) (marks queue : List ℕ) : Type 0 where
  pub marks-room : n ≤ length marks
  pub queue-room : n ≤ length queue
  pub small : n < 4294967296

-- the marks of n vertices say which a walk from s reaches, whatever k and the sequences
pub record Reached (plain : Bool) (kind m n : ℕ) (es : List ℕ) (s : ℕ) (marks : List ℕ) : Type 0 where
  pub at : (k : ℕ) (vs p : List ℕ) (v : ℕ) → v < n → is_set (get_or marks v 0) ≡ elem_of v (reached (walk_step plain kind) (graph_in k n m es vs p) s)

-- ---- on the way

-- whether a walk of this kind leaves a vertex over the edges at its end `off`: 0 those that leave it, 1 those that enter it
unfoldable pub takes_end : ℕ → ℕ → Bool
takes_end zero off = eqb off 0
takes_end (suc zero) off = eqb off 1
takes_end (suc (suc n)) off = true

unfoldable pub passable : Bool → List ℕ → ℕ → Bool
passable true es e = not (ref_at es e)
passable false es e = true

-- the graph of the edges alone: all that a walk looks at
abbrev pub bare : ℕ → List ℕ → Graph
bare m es = graph_in 0 0 m es [] []

-- The first `tail` places of the queue hold the marked vertices, each once. The one at place i is at most i steps from s.
pub record QueueFound (plain : Bool) (kind m n : ℕ) (es : List ℕ) (s : ℕ) (marks queue : List ℕ) (tail : ℕ) : Type 0 where
  pub vertex : (i : ℕ) → i < tail → get_or queue i 0 < n
  pub marked : (i : ℕ) → i < tail → is_set (get_or marks (get_or queue i 0) 0) ≡ true
  pub once : (i j : ℕ) → i < tail → j < tail → get_or queue i 0 ≡ get_or queue j 0 → i ≡ j
  pub place : (v : ℕ) → v < n → is_set (get_or marks v 0) ≡ true → (i : ℕ) × (i < tail) × (get_or queue i 0 ≡ v)
  pub near : (i : ℕ) → i < tail → (l : ℕ) × (l ≤ i) × Way (walk_step plain kind) (bare m es) l s (get_or queue i 0)

-- what was marked and queued stays so
pub record MarksGrown (marks queue : List ℕ) (tail : ℕ) (marks' queue' : List ℕ) (tail' : ℕ) : Type 0 where
  pub more : tail ≤ tail'
  pub marks_stay : (v : ℕ) → is_set (get_or marks v 0) ≡ true → is_set (get_or marks' v 0) ≡ true
  pub queue-stays : (i : ℕ) → i < tail → get_or queue' i 0 ≡ get_or queue i 0

-- the steps from u over the edges at its end `off` with a number below c lead to marked vertices
pub record Spread (plain : Bool) (kind off : ℕ) (es : List ℕ) (u c : ℕ) (marks : List ℕ) : Type 0 where
  pub at : (e : ℕ) → e < c → takes_end kind off ≡ true → passable plain es e ≡ true → edge_end off es e ≡ u → is_set (get_or marks (edge_end (1 - off) es e) 0) ≡ true

pub record Pushed (plain : Bool) (kind off m n : ℕ) (es : List ℕ) (s h : ℕ) (marks queue : List ℕ) (tail : ℕ) (marks' queue' :
    List ℕ) (tail' : ℕ) : Type 0 where
  pub found : QueueFound plain kind m n es s marks' queue' tail'
  pub grown : MarksGrown marks queue tail marks' queue' tail'
  pub spread : Spread plain kind off es (get_or queue h 0) m marks'

-- every step from the vertex at h of the queue leads to a marked vertex
pub record VertexLeft (plain : Bool) (kind m n : ℕ) (es : List ℕ) (s h : ℕ) (marks queue : List ℕ) (tail : ℕ) (marks' queue' :
    List ℕ) (tail' : ℕ) : Type 0 where
  pub found : QueueFound plain kind m n es s marks' queue' tail'
  pub grown : MarksGrown marks queue tail marks' queue' tail'
  pub left : (w : ℕ) → Hop (walk_step plain kind) (bare m es) (get_or queue h 0) w → is_set (get_or marks' w 0) ≡ true
