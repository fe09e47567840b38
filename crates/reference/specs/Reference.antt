-- The reference path in slices, whatever k, the vertices' places and the pool. Assumes nothing.
use Rattle.std.specs.Prelude.{◌≡◌, List, ℕ, ◌≤◌, ◌<◌, length, Some, None}
use Rattle.std.specs.Prelude as std
use Rattle.std.proofs.Math.Option.{Option, none, some}
use Rattle.defs.specs.Paths.{next_on_reference, reference_path}
use Rattle.laws.proofs.Sound.{Sound}
use Rattle.store.specs.Store.{graph_in, nums_in}
use Rattle.refs.specs.Refs.{vertex_of}

-- the next vertex, or none
pub record NextOn (m n : ℕ) (es : List ℕ) (v : ℕ) (r : std.Option ℕ) : Type 0 where
  pub is : (k : ℕ) (vs p : List ℕ) → vertex_of r ≡ next_on_reference (graph_in k n m es vs p) v
  pub below : (w : ℕ) → r ≡ Some w → w < n

-- the source is a vertex, and there is room for each vertex
pub record PathWalkable (n source : ℕ) (nodes : List ℕ) : Type 0 where
  pub source-below : source < n
  pub room : n ≤ length nodes
  pub small : n < 4294967296

-- the first c of the nodes, or no path
abbrev pub path_of : std.Option ℕ → List ℕ → Option (List ℕ)
path_of (Some c) nodes = some (nums_in c nodes)
path_of None nodes = none

-- the vertices from source to sink
pub record PathWalked (m n : ℕ) (es : List ℕ) (source sink : ℕ) (r : std.Option ℕ) (nodes : List ℕ) : Type 0 where
  pub is : (k : ℕ) (vs p : List ℕ) → Sound (graph_in k n m es vs p) → path_of r nodes ≡ reference_path n (graph_in k n m es vs p) sink source
  pub most : (c : ℕ) → r ≡ Some c → c ≤ n
