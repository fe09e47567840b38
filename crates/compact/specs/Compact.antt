-- What closing up does to the slices. Assumes nothing.
use Rattle.std.specs.Prelude.{◌≡◌, Bool, true, not, ◌&&◌, List, [], ◌∷◌, ◌++◌, map, ℕ, suc, ◌+◌, ◌*◌, ◌≤◌, ◌<◌, length, get_or, eqb}
use Rattle.defs.specs.Lists.{bit, elem_of, keep_if, keep_at, rank}
use Rattle.defs.specs.SeqGraph.{Edge, Graph, remap_edge, compact_vertices, keeps, remove_vertices_by_id}
use Rattle.compact.specs.declared.Counts.{Counts}
use Rattle.store.specs.Store.{is_set, edge_in, edges_in, seq_in, seqs_in, graph_in, nums_in, EndsBelow, Within, kept_by, Numbered}

pub record BothSet (a b : ℕ) (r : Bool) : Type 0 where
  pub is : r ≡ is_set a && is_set b
  pub left : r ≡ true → 0 < a
  pub right : r ≡ true → 0 < b

-- no mark from `from` on, below `to`; those before stay
pub record Cleared (l : List ℕ) (from to : ℕ) (l' : List ℕ) : Type 0 where
  pub none : (i : ℕ) → from ≤ i → i < to → get_or l' i 0 ≡ 0
  pub same : (i : ℕ) → i < from → get_or l' i 0 ≡ get_or l i 0

-- of n vertices those that are in the list have 1, the others 0
pub record Marked (gone : List ℕ) (n : ℕ) (mp : List ℕ) : Type 0 where
  pub at : (v : ℕ) → v < n → get_or mp v 0 ≡ bit (elem_of v gone)

-- the marks of n vertices became new numbers
pub record Renumbered (mp₀ : List ℕ) (n : ℕ) (mp : List ℕ) : Type 0 where
  pub numbered : Numbered n mp
  pub same : (v : ℕ) → v < n → kept_by mp v ≡ eqb (get_or mp₀ v 0) 0

-- of n vertices r are left: those that stay, in order
pub record VertsClosed (mp : List ℕ) (n : ℕ) (vs : List ℕ) (r : ℕ) (vs' : List ℕ) : Type 0 where
  pub most : r ≤ n
  pub is : (p : List ℕ) → seqs_in r vs' p ≡ keep_at (kept_by mp) 0 (seqs_in n vs p)
  pub within : (used : ℕ) → Within used n vs → Within used r vs'

-- of m edges r are left: those whose ends stay, in order, under their new numbers
pub record EdgesClosed (mp : List ℕ) (m : ℕ) (es : List ℕ) (r : ℕ) (es' : List ℕ) : Type 0 where
  pub most : r ≤ m
  pub is : edges_in r es' ≡ map (remap_edge (kept_by mp)) (keep_if (λ (e : Edge). kept_by mp e.from && kept_by mp e.to) (edges_in m es))

-- the vertices without a mark stay
abbrev pub unmarked : List ℕ → ℕ → Bool
unmarked mp v = eqb (get_or mp v 0) 0

-- the graph in the slices can close up: `mp` has a place for each vertex
pub record Compactable (n m : ℕ) (es vs mp : List ℕ) : Type 0 where
  pub es-room : 4 * m ≤ length es
  pub vs-room : 2 * n ≤ length vs
  pub mp-room : n ≤ length mp
  pub small : n < 4294967296
  pub ends : EndsBelow n m es

-- the slices hold the graph of the unmarked vertices, whatever k and the pool
pub record Compacted (n m : ℕ) (es vs mp : List ℕ) (r : Counts) (es' vs' mp' : List ℕ) : Type 0 where
  pub most-n : r.n ≤ n
  pub most-m : r.m ≤ m
  pub ends : EndsBelow r.n r.m es'
  pub within : (used : ℕ) → Within used n vs → Within used r.n vs'
  pub is : (k : ℕ) (p : List ℕ) → graph_in k r.n r.m es' vs' p ≡ compact_vertices (unmarked mp) (graph_in k n m es vs p)
  pub renumbered : Renumbered mp n mp'

-- g numbers of vertices below n
pub record Below (l : List ℕ) (g n : ℕ) : Type 0 where
  pub room : g ≤ length l
  pub at : (k : ℕ) → k < g → get_or l k 0 < n

-- the slices hold the graph without the vertices of the list; mp' has the new numbers
pub record Removed (n m : ℕ) (es vs gone : List ℕ) (r : Counts) (es' vs' mp' : List ℕ) : Type 0 where
  pub most-n : r.n ≤ n
  pub most-m : r.m ≤ m
  pub ends : EndsBelow r.n r.m es'
  pub within : (used : ℕ) → Within used n vs → Within used r.n vs'
  pub is : (k : ℕ) (p : List ℕ) → graph_in k r.n r.m es' vs' p ≡ remove_vertices_by_id gone (graph_in k n m es vs p)
  pub numbered : Numbered n mp'
  pub kept : (v : ℕ) → v < n → kept_by mp' v ≡ keeps gone v
