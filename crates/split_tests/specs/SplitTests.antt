-- When the predecessors of a vertex are split. Assumes nothing.
use Rattle.std.specs.Prelude.{◌≡◌, Bool, Option as OptionOf, Some, None, true, false, ℕ, ◌+◌, ◌*◌, ◌≤◌, ◌<◌, length, get_or, eqb}
use Rattle.std.proofs.Math.Option.{Option, none, some}
use mathlib.Core.List.{List, map, Memᴰ}
use Rattle.defs.specs.Lists.{elem_of, common_suffix, given}
use Rattle.defs.specs.SeqGraph.{Graph, vertex_sequence, outgoing_nodes}
use Rattle.defs.specs.Rewrites.{is_split, would_eliminate_ref_source}
use Rattle.store.specs.Store.{graph_in, nums_in, Within}
use Rattle.compact.specs.Compact.{Below}
use Rattle.index.specs.Index.{edge_end, incident_edges, Indexed}
use Rattle.shared.specs.Shared.{Suffix}

-- v has one follower
abbrev pub one_out : ℕ → List ℕ → ℕ → Bool
one_out m es v = eqb (length (incident_edges (edge_end 0 es) m v)) 1

-- v's sequence has s bytes
abbrev pub is_long : List ℕ → ℕ → ℕ → Bool
is_long vs s v = eqb (get_or vs (2 * v + 1) 0) s

-- the first c of the nodes are indexed vertices with sequences in the pool
pub record SplitTestable (n m : ℕ) (es vs p heads nexts nodes : List ℕ) (c : ℕ) : Type 0 where
  pub indexed : Indexed m n es heads nexts
  pub vs-room : 2 * n ≤ length vs
  pub pool : Within (length p) n vs
  pub below : Below nodes c n

-- the answer is the definition's, whatever k and the pool
pub record Eliminates (n m : ℕ) (es vs nodes : List ℕ) (c s : ℕ) (r : Bool) : Type 0 where
  pub is : (k : ℕ) (p : List ℕ) → Within (length p) n vs → r ≡ would_eliminate_ref_source (graph_in k n m es vs p) s (nums_in c nodes)

-- what the first c of the nodes share at their end
abbrev pub suffix_of : Graph → List ℕ → List ℕ
suffix_of g l = common_suffix (map (vertex_sequence g) l)

-- the vertices are others than the bottom and do not follow it: so it is in a graph without cycles
pub record BeforeBottom (g : Graph) (bottom : ℕ) (l : List ℕ) : Type 0 where
  pub other : (v : ℕ) → Memᴰ v l → v ≡ bottom → ⊥
  pub not_behind : (v : ℕ) → Memᴰ v l → elem_of v (outgoing_nodes g bottom) ≡ false

-- the length of the suffix that they are split by, or none
abbrev pub suffix_by : OptionOf ℕ → Option ℕ
suffix_by (Some s) = some s
suffix_by None = none

-- s bytes are what they share; they are several, and each has one follower
pub record SplitBy (m : ℕ) (es vs p nodes : List ℕ) (c s : ℕ) : Type 0 where
  pub suffix : Suffix vs p nodes 0 c s
  pub several : 1 < c
  pub single : (i : ℕ) → i < c → one_out m es (get_or nodes i 0) ≡ true

-- the answer is the definition's, whatever k and the bottom that the nodes stand before
pub record Splits (n m : ℕ) (es vs p nodes : List ℕ) (c : ℕ) (r : OptionOf ℕ) : Type 0 where
  pub is : (k bottom : ℕ) → BeforeBottom (graph_in k n m es vs p) bottom (nums_in c nodes)
      → suffix_by r ≡ given (is_split (graph_in k n m es vs p) bottom (nums_in c nodes) (suffix_of (graph_in k n m es vs p) (nums_in c nodes)))
      (length (suffix_of (graph_in k n m es vs p) (nums_in c nodes)))
  pub by : (s : ℕ) → r ≡ Some s → SplitBy m es vs p nodes c s
