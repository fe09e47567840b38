-- What splitting the predecessors of a vertex does to the slices. Assumes nothing.
use Rattle.std.specs.Prelude.{◌≡◌, Bool, Option as OptionOf, Some, false, cond, List, [], ◌∷◌, ◌++◌, ℕ, zero, suc, ◌+◌, ◌*◌, ◌-◌, ◌≤◌, ◌<◌, length, get_or, ltb}
use Rattle.defs.specs.Lists.{tab, concat}
use Rattle.defs.specs.SeqGraph.{Edge, incoming_nodes, keeps, add_or_update_edges}
use Rattle.defs.specs.Rewrites.{try_split_common_suffix}
use Rattle.store.specs.Store.{part, edge, edge_in, edges_in, seqs_in, EndsBelow, Within, kept_by, Numbered}
use Rattle.compact.specs.Compact.{Below}
use Rattle.index.specs.Index.{Indexed}
use Rattle.memory.specs.Memory.{graph_of, Left}
use Rattle.memory.specs.declared.Held.{Held}
use Rattle.redirect.specs.Redirect.{redirected_all}

-- more than s bytes: a prefix is left
abbrev pub has_prefix : List ℕ → ℕ → ℕ → Bool
has_prefix vs s v = ltb s (get_or vs (2 * v + 1) 0)

-- the vertex that takes over the edges into a predecessor: its prefix, y + 1, or its suffix, y
abbrev pub entry_number : Bool → ℕ → ℕ
entry_number prefix y = cond prefix (y + 1) y

-- the edge from a new prefix vertex, y + 1, to its suffix vertex, y: support 1, a reference edge where d is one, not capped
abbrev pub from_prefix : ℕ → Edge → Edge
from_prefix y d = record { from = y + 1; to = y; support = 1; is_ref = d.is_ref; capped = false }

-- the edge from a new suffix vertex y to the bottom carries what d carries
abbrev pub to_bottom : ℕ → ℕ → Edge → Edge
to_bottom y bottom d = record { from = y; to = bottom; support = d.support; is_ref = d.is_ref; capped = d.capped }

-- the edges of a new suffix vertex y: from its prefix, if there is one, and to the bottom
abbrev pub link_edges : Bool → ℕ → ℕ → Edge → List Edge
link_edges prefix y bottom d = cond prefix
    (from_prefix y d ∷ to_bottom y bottom d ∷ [])
    (to_bottom y bottom d ∷ [])

-- all new edges of the predecessor v, whose edge out is its first
abbrev pub block_edges : ℕ → ℕ → Bool → List ℕ → ℕ → List ℕ → ℕ → List Edge
block_edges y bottom prefix heads m es v = link_edges prefix y bottom (edge_in es (get_or heads (2 * v) 0)) ++ redirected_all 1 (entry_number prefix y) m es v

-- the number of the suffix vertex of node i, where the first is n
unfoldable pub suffix_number : List ℕ → List ℕ → ℕ → ℕ → ℕ → ℕ
suffix_number vs nodes s n zero = n
suffix_number vs nodes s n (suc i) = entry_number (has_prefix vs s (get_or nodes i 0)) (suffix_number vs nodes s n i) + 1

-- the new edges of node i, and of the first c
abbrev pub node_edges : List ℕ → ℕ → ℕ → ℕ → List ℕ → List ℕ → List ℕ → ℕ → ℕ → List Edge
node_edges heads m n s es vs nodes bottom i = block_edges (suffix_number vs nodes s n i) bottom (has_prefix vs s (get_or nodes i 0)) heads m es (get_or nodes i 0)

abbrev pub suffix_edges : List ℕ → ℕ → ℕ → ℕ → List ℕ → List ℕ → List ℕ → ℕ → ℕ → List Edge
suffix_edges heads m n s es vs nodes bottom c = concat (tab c (node_edges heads m n s es vs nodes bottom))

-- the new sequences of the predecessor v: the suffix, s bytes from `from` on, and the prefix
abbrev pub new_seqs : List ℕ → List ℕ → ℕ → ℕ → ℕ → List (List ℕ)
new_seqs vs p from s v = cond (has_prefix vs s v)
    (part p from s ∷ part p (get_or vs (2 * v) 0) (get_or vs (2 * v + 1) 0 - s) ∷ [])
    (part p from s ∷ [])

abbrev pub suffix_verts : List ℕ → List ℕ → List ℕ → ℕ → ℕ → ℕ → List (List ℕ)
suffix_verts vs p nodes from s c = concat (tab c (λ (i : ℕ). new_seqs vs p from s (get_or nodes i 0)))

-- y is a new vertex; there is room for two edges
pub record Linkable (y bottom k : ℕ) (es : List ℕ) : Type 0 where
  pub ends : EndsBelow y k es
  pub below : bottom < y
  pub room : 4 * k + 8 ≤ length es
  pub small : y + 1 < 4294967296

pub record LinksDone (prefix : Bool) (y bottom s f k : ℕ) (es : List ℕ) (r : ℕ) (es' : List ℕ) : Type 0 where
  pub is : edges_in r es' ≡ add_or_update_edges (link_edges prefix y bottom (edge y bottom s f)) (edges_in k es)
  pub old : (j : ℕ) → j < k → edge_in es' j ≡ edge_in es j

-- the marks of n vertices are at most k
pub record MarksLow (n k : ℕ) (mp : List ℕ) : Type 0 where
  pub room : n ≤ length mp
  pub most : (x : ℕ) → x < n → get_or mp x 0 ≤ k

-- there is room for the new edges, and for one more
pub record RoomToSplit (ns : List Edge) (k : ℕ) (es : List ℕ) : Type 0 where
  pub room : 4 * length (add_or_update_edges ns (edges_in k es)) + 4 ≤ length es
  pub small : length (add_or_update_edges ns (edges_in k es)) + 1 < 4294967296

-- the predecessor v has an edge out, and y is the number of its suffix vertex
pub record BlockReady (prefix : Bool) (y bottom m n : ℕ) (es heads nexts : List ℕ) (v k : ℕ) (mp : List ℕ) : Type 0 where
  pub indexed : Indexed m n es heads nexts
  pub below : v < n
  pub out : get_or heads (2 * v) 0 < m
  pub bottom-below : bottom < n
  pub new : n ≤ y
  pub behind : m ≤ k
  pub ends : EndsBelow y k es
  pub marks : MarksLow n k mp
  pub roomy : RoomToSplit (block_edges y bottom prefix heads m es v) k es
  pub small : y + 1 < 4294967296

pub record BlockDone (prefix : Bool) (y bottom m n : ℕ) (es heads : List ℕ) (v k r : ℕ) (es' mp' : List ℕ) : Type 0 where
  pub is : edges_in r es' ≡ add_or_update_edges (block_edges y bottom prefix heads m es v) (edges_in k es)
  pub old : (j : ℕ) → j < m → edge_in es' j ≡ edge_in es j
  pub marks : MarksLow n r mp'

pub record SplitEdgesReady (m n s : ℕ) (es heads nexts vs nodes : List ℕ) (c bottom : ℕ) (mp : List ℕ) : Type 0 where
  pub indexed : Indexed m n es heads nexts
  pub vs-room : 2 * n ≤ length vs
  pub prevs : Below nodes c n
  pub outs : (i : ℕ) → i < c → get_or heads (2 * get_or nodes i 0) 0 < m
  pub bottom-below : bottom < n
  pub mp-room : n ≤ length mp
  pub roomy : RoomToSplit (suffix_edges heads m n s es vs nodes bottom c) m es
  pub small : suffix_number vs nodes s n c < 4294967296

pub record SplitEdgesDone (m n s : ℕ) (es heads vs nodes : List ℕ) (c bottom r : ℕ) (es' : List ℕ) : Type 0 where
  pub is : edges_in r es' ≡ add_or_update_edges (suffix_edges heads m n s es vs nodes bottom c) (edges_in m es)

-- the sequence of v can be cut, and there is room for two vertices where a prefix is left, else for one
pub record Cuttable (k : ℕ) (vs : List ℕ) (s v : ℕ) : Type 0 where
  pub below : v < k
  pub room : 2 * (entry_number (has_prefix vs s v) k + 1) ≤ length vs
  pub small : get_or vs (2 * v) 0 + get_or vs (2 * v + 1) 0 < 4294967296
  pub s-small : s < 4294967296

pub record CutDone (k : ℕ) (vs : List ℕ) (from s v r : ℕ) (vs' : List ℕ) : Type 0 where
  pub count : r ≡ entry_number (has_prefix vs s v) k + 1
  pub is : (p : List ℕ) → seqs_in r vs' p ≡ seqs_in k vs p ++ new_seqs vs p from s v
  pub same : (j : ℕ) → j < 2 * k → get_or vs' j 0 ≡ get_or vs j 0
  pub within : (used : ℕ) → Within used k vs → from + s ≤ used → Within used r vs'

pub record VertsReady (n : ℕ) (vs nodes : List ℕ) (c s : ℕ) : Type 0 where
  pub prevs : Below nodes c n
  pub room : 2 * suffix_number vs nodes s n c ≤ length vs
  pub small : (v : ℕ) → v < n → get_or vs (2 * v) 0 + get_or vs (2 * v + 1) 0 < 4294967296
  pub s-small : s < 4294967296

pub record VertsDone (n : ℕ) (vs nodes : List ℕ) (c from s r : ℕ) (vs' : List ℕ) : Type 0 where
  pub count : r ≡ suffix_number vs nodes s n c
  pub is : (p : List ℕ) → seqs_in r vs' p ≡ seqs_in n vs p ++ suffix_verts vs p nodes from s c
  pub within : (used : ℕ) → Within used n vs → from + s ≤ used → Within used r vs'

-- the sequence of v has s bytes at least
pub record Ending (vs : List ℕ) (v s : ℕ) : Type 0 where
  pub room : 2 * v + 2 ≤ length vs
  pub long : s ≤ get_or vs (2 * v + 1) 0
  pub small : get_or vs (2 * v) 0 + get_or vs (2 * v + 1) 0 < 4294967296

-- a split that was tried: besides the graph, the new numbers plus 1 in mp'
pub record SplitTried (h : Held) (es vs p heads nexts : List ℕ) (bottom : ℕ) (r : OptionOf Held) (es' vs' mp' : List ℕ) : Type 0 where
  pub left : Left (try_split_common_suffix (graph_of h es vs p) bottom) es vs p heads nexts r es' vs' p
  pub numbered : (done : Held) → r ≡ Some done → Numbered h.n mp'
  pub kept : (done : Held) → r ≡ Some done → (u : ℕ) → u < h.n → kept_by mp' u ≡ keeps (incoming_nodes (graph_of h es vs p) bottom) u
