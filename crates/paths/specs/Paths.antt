-- Paths in slices. Assumes nothing.
use Rattle.std.specs.Prelude.{◌≡◌, Bool, List, ◌∷◌, ℕ, ◌*◌, ◌≤◌, ◌<◌, length}
use Rattle.defs.specs.Paths.{is_path_of, edge_ends}
use Rattle.defs.specs.Simplify.{sequence_bytes}
use Rattle.laws.proofs.Sound.{Sound}
use Rattle.store.specs.Store.{graph_in, nums_in, Within}
use Rattle.memory.specs.Memory.{graph_of}
use Rattle.memory.specs.declared.Held.{Held}

-- the answer whether `start` and `list` are a path, whatever k, the vertices' places and the pool
pub record EdgePath (m n : ℕ) (es : List ℕ) (start : ℕ) (list : List ℕ) (r : Bool) : Type 0 where
  pub is : (k : ℕ) (vs p : List ℕ) → r ≡ is_path_of (graph_in k n m es vs p) start list

-- the first r of the nodes are the vertices of the path
pub record PathNodes (start : ℕ) (list : List ℕ) (r : ℕ) (nodes : List ℕ) : Type 0 where
  pub room : r ≤ length nodes
  pub is : nums_in r nodes ≡ start ∷ edge_ends list

-- a held graph without cycles, with its sequences within the pool, and room in `nodes` for each of its vertices
pub record Spellable (h : Held) (es vs p nodes : List ℕ) : Type 0 where
  pub sound : Sound (graph_of h es vs p)
  pub within : Within (length p) h.n vs
  pub vs-room : 2 * h.n ≤ length vs
  pub nodes-room : h.n ≤ length nodes
  pub small : h.n < 4294967296
  pub bytes : sequence_bytes (graph_of h es vs p).verts ≤ length p
