-- When the predecessors of a vertex merge with it, and what merging does to the slices. Assumes nothing.
use Rattle.std.specs.Prelude.{◌≡◌, Bool, true, ◌&&◌, List, ◌++◌, map, ℕ, ◌+◌, ◌*◌, ◌-◌, ◌≤◌, ◌<◌, length, get_or, eqb, ltb}
use Rattle.defs.specs.Lists.{same_list, concat}
use Rattle.defs.specs.SeqGraph.{Edge, incoming_nodes, apply_change, add_or_update_edges}
use Rattle.defs.specs.Rewrites.{is_merge, merge_change}
use Rattle.store.specs.Store.{part, seq_in, edge_in, edges_in, graph_in, nums_in, Within}
use Rattle.compact.specs.Compact.{Below}
use Rattle.index.specs.Index.{edge_end, incident_edges, Indexed}
use Rattle.memory.specs.Memory.{graph_of, Holds}
use Rattle.memory.specs.declared.Held.{Held}
use Rattle.redirect.specs.Redirect.{redirected_all, EdgeMarks}

-- the sequences of u and v are in the pool
pub record Comparable (vs p : List ℕ) (u v : ℕ) : Type 0 where
  pub u-room : 2 * u + 2 ≤ length vs
  pub v-room : 2 * v + 2 ≤ length vs
  pub u-pool : get_or vs (2 * u) 0 + get_or vs (2 * u + 1) 0 ≤ length p
  pub v-pool : get_or vs (2 * v) 0 + get_or vs (2 * v + 1) 0 ≤ length p

-- v has the bytes of `first`, one follower and a predecessor
abbrev pub is_prev : ℕ → List ℕ → List ℕ → List ℕ → ℕ → ℕ → Bool
is_prev m es vs p first v =
    same_list (seq_in vs p v) (seq_in vs p first) && (eqb (length (incident_edges (edge_end 0 es) m v)) 1 && ltb 0 (length (incident_edges (edge_end 1 es) m v)))

pub record MergeTestable (n m : ℕ) (es vs p heads nexts : List ℕ) : Type 0 where
  pub indexed : Indexed m n es heads nexts
  pub vs-room : 2 * n ≤ length vs
  pub pool : Within (length p) n vs

-- the answer is the definition's, whatever k
pub record Merges (n m : ℕ) (es vs p nodes : List ℕ) (c : ℕ) (r : Bool) : Type 0 where
  pub is : (k : ℕ) → r ≡ is_merge (graph_in k n m es vs p) (nums_in c nodes)

-- the two sequences are before `used`, and there is room for both behind
pub record MergeWritable (vs p : List ℕ) (used first bottom : ℕ) : Type 0 where
  pub first-room : 2 * first + 2 ≤ length vs
  pub bottom-room : 2 * bottom + 2 ≤ length vs
  pub first-before : get_or vs (2 * first) 0 + get_or vs (2 * first + 1) 0 ≤ used
  pub bottom-before : get_or vs (2 * bottom) 0 + get_or vs (2 * bottom + 1) 0 ≤ used
  pub room : used + get_or vs (2 * first + 1) 0 + get_or vs (2 * bottom + 1) 0 ≤ length p

pub record MergeWritten (vs p : List ℕ) (used first bottom r : ℕ) (p' : List ℕ) : Type 0 where
  pub end : r ≡ used + get_or vs (2 * first + 1) 0 + get_or vs (2 * bottom + 1) 0
  pub old : (k : ℕ) → k < used → get_or p' k 0 ≡ get_or p k 0
  pub is : part p' used (r - used) ≡ seq_in vs p first ++ seq_in vs p bottom

-- the edges into the predecessors, entering the new vertex n, and all its new edges
abbrev pub new_into : ℕ → ℕ → List ℕ → List ℕ → ℕ → List Edge
new_into n m es nodes c = concat (map (redirected_all 1 n m es) (nums_in c nodes))

abbrev pub merge_edges : ℕ → ℕ → List ℕ → List ℕ → ℕ → ℕ → List Edge
merge_edges n m es nodes c bottom = new_into n m es nodes c ++ redirected_all 0 n m es bottom

-- there is room for the new edges, and for one more
pub record RoomToMerge (ns : List Edge) (n m : ℕ) (es : List ℕ) : Type 0 where
  pub room : 4 * length (add_or_update_edges ns (edges_in m es)) + 4 ≤ length es
  pub small : length (add_or_update_edges ns (edges_in m es)) + 1 < 4294967296
  pub n-small : n < 4294967296

pub record IntoReady (n m : ℕ) (es heads nexts nodes : List ℕ) (c : ℕ) (mp : List ℕ) : Type 0 where
  pub indexed : Indexed m n es heads nexts
  pub prevs : Below nodes c n
  pub marks : EdgeMarks 1 n n m m es mp
  pub roomy : RoomToMerge (new_into n m es nodes c) n m es

pub record IntoDone (n m : ℕ) (es nodes : List ℕ) (c k : ℕ) (es' mp' : List ℕ) : Type 0 where
  pub is : edges_in k es' ≡ add_or_update_edges (new_into n m es nodes c) (edges_in m es)
  pub old : (j : ℕ) → j < m → edge_in es' j ≡ edge_in es j
  pub marks : EdgeMarks 1 n n m k es' mp'

pub record MergeEdgesReady (n m : ℕ) (es heads nexts nodes : List ℕ) (c bottom : ℕ) (mp : List ℕ) : Type 0 where
  pub indexed : Indexed m n es heads nexts
  pub prevs : Below nodes c n
  pub below : bottom < n
  pub mp-room : n ≤ length mp
  pub roomy : RoomToMerge (merge_edges n m es nodes c bottom) n m es

pub record MergeEdgesDone (n m : ℕ) (es nodes : List ℕ) (c bottom k : ℕ) (es' : List ℕ) : Type 0 where
  pub is : edges_in k es' ≡ add_or_update_edges (merge_edges n m es nodes c bottom) (edges_in m es)

-- the first c of the nodes are the predecessors of the bottom, and they merge with it
pub record Mergeable (h : Held) (es vs p nodes : List ℕ) (c bottom : ℕ) : Type 0 where
  pub below : bottom < h.n
  pub prevs : Below nodes c h.n
  pub are : nums_in c nodes ≡ incoming_nodes (graph_of h es vs p) bottom
  pub ok : is_merge (graph_of h es vs p) (incoming_nodes (graph_of h es vs p) bottom) ≡ true

pub record Merged (h : Held) (es vs p heads nexts : List ℕ) (bottom : ℕ) (r : Held) (es' vs' p' : List ℕ) : Type 0 where
  pub is : graph_of r es' vs' p' ≡ apply_change (graph_of h es vs p) (merge_change (graph_of h es vs p) bottom (incoming_nodes (graph_of h es vs p) bottom))
  pub holds : Holds r es' vs' p' heads nexts
