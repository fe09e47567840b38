-- The graph in slices: edges, four numbers each (from, to, support, and the flag as in a record); vertices, two numbers each (where the
-- sequence starts in the pool, and how long it is); and the pool. Assumes nothing.
use Rattle.std.specs.Prelude.{◌≡◌, Bool, true, not, List, [], ◌∷◌, ℕ, suc, ◌+◌, ◌*◌, ◌≤◌, ◌<◌, length, get_or, set, take, drop, eqb}
use Rattle.defs.specs.Lists.{tab, rank, sum}
use Rattle.tabs.specs.First.{first_ix}
use Rattle.defs.specs.SeqGraph.{Edge, Graph, has_ends}
use Rattle.defs.specs.Record.{flag_is_ref, flag_is_capped}
use Rattle.edge_data.specs.declared.Carried.{Carried}

abbrev pub edge : ℕ → ℕ → ℕ → ℕ → Edge
edge a b s f = record { from = a; to = b; support = s; is_ref = flag_is_ref f; capped = flag_is_capped f }

-- the edge at index i, and the first m edges
abbrev pub edge_in : List ℕ → ℕ → Edge
edge_in es i = edge (get_or es (4 * i) 0) (get_or es (4 * i + 1) 0) (get_or es (4 * i + 2) 0) (get_or es (4 * i + 3) 0)

abbrev pub edges_in : ℕ → List ℕ → List Edge
edges_in m es = tab m (edge_in es)

-- what the edge at index i carries
abbrev pub carried_at : List ℕ → ℕ → Carried
carried_at es i = record { support = get_or es (4 * i + 2) 0; flag = get_or es (4 * i + 3) 0 }

-- es with an edge stored at index i
unfoldable pub put_edge : List ℕ → ℕ → ℕ → ℕ → ℕ → ℕ → List ℕ
put_edge es i a b s f = set (set (set (set es (4 * i) a) (4 * i + 1) b) (4 * i + 2) s) (4 * i + 3) f

-- the number of the first edge from a to b, or the number of edges
abbrev pub find_edge : ℕ → ℕ → List Edge → ℕ
find_edge a b es = first_ix (has_ends a b) es

-- there is room for one more edge, and `at` is where the edge from a to b stands
pub record Joinable (m : ℕ) (es : List ℕ) (at a b : ℕ) : Type 0 where
  pub room : 4 * m + 4 ≤ length es
  pub is : at ≡ find_edge a b (edges_in m es)

-- vs with a vertex stored at index v
unfoldable pub put_vertex : List ℕ → ℕ → ℕ → ℕ → List ℕ
put_vertex vs v start len = set (set vs (2 * v) start) (2 * v + 1) len

-- the part of the pool of n bytes from `at` on
abbrev pub part : List ℕ → ℕ → ℕ → List ℕ
part p at n = take n (drop at p)

abbrev pub seq_in : List ℕ → List ℕ → ℕ → List ℕ
seq_in vs p v = part p (get_or vs (2 * v) 0) (get_or vs (2 * v + 1) 0)

abbrev pub seqs_in : ℕ → List ℕ → List ℕ → List (List ℕ)
seqs_in n vs p = tab n (seq_in vs p)

abbrev pub graph_in : ℕ → ℕ → ℕ → List ℕ → List ℕ → List ℕ → Graph
graph_in k n m es vs p = record { k = k; verts = seqs_in n vs p; edges = edges_in m es }

-- c numbers in a slice
abbrev pub nums_in : ℕ → List ℕ → List ℕ
nums_in c l = tab c (λ (i : ℕ). get_or l i 0)

-- the lengths of the first c of the nodes together
abbrev pub nodes_length : List ℕ → List ℕ → ℕ → ℕ
nodes_length vs nodes c = sum (tab c (λ (i : ℕ). get_or vs (2 * get_or nodes i 0 + 1) 0))

-- both ends of each of the m edges are below n
pub record EndsBelow (n m : ℕ) (es : List ℕ) : Type 0 where
  pub at : (k : ℕ) → k < m → (get_or es (4 * k) 0 < n) × (get_or es (4 * k + 1) 0 < n)

-- each of the n vertices has its sequence within the first `used` bytes of the pool
pub record Within (used n : ℕ) (vs : List ℕ) : Type 0 where
  pub at : (v : ℕ) → v < n → get_or vs (2 * v) 0 + get_or vs (2 * v + 1) 0 ≤ used

abbrev pub is_set : ℕ → Bool
is_set x = not (eqb x 0)

-- a vertex stays where its number in the map is not 0
abbrev pub kept_by : List ℕ → ℕ → Bool
kept_by mp v = is_set (get_or mp v 0)

-- the first n numbers of mp are the vertices' new numbers plus 1, and 0 for those that go
pub record Numbered (n : ℕ) (mp : List ℕ) : Type 0 where
  pub room : n ≤ length mp
  pub is : (v : ℕ) → v < n → kept_by mp v ≡ true → get_or mp v 0 ≡ suc (rank (kept_by mp) v)
