-- A new vertex takes over the edges of an old one. Assumes nothing.
use Rattle.std.specs.Prelude.{◌≡◌, cond, List, [], ◌∷◌, map, ℕ, ◌+◌, ◌*◌, ◌-◌, ◌≤◌, ◌<◌, length, get_or, eqb, leb}
use Rattle.defs.specs.SeqGraph.{Edge, add_or_update_edges}
use Rattle.store.specs.Store.{edge, edge_in, edges_in, find_edge}
use Rattle.index.specs.Index.{edge_end, incident_edges, Indexed}

-- the ends of an edge with y at its end `off` (0 from, 1 to) and x at the other
abbrev pub new_from : ℕ → ℕ → ℕ → ℕ
new_from off y x = cond (eqb off 0) y x

abbrev pub new_to : ℕ → ℕ → ℕ → ℕ
new_to off y x = cond (eqb off 0) x y

-- edge e with y at its end `off`
abbrev pub redirected : ℕ → ℕ → List ℕ → ℕ → Edge
redirected off y es e =
    let x = edge_end (1 - off) es e in
    edge (new_from off y x) (new_to off y x) (get_or es (4 * e + 2) 0) (get_or es (4 * e + 3) 0)

-- the edges of v among the first m₀, each with y in the place of v
abbrev pub redirected_all : ℕ → ℕ → ℕ → List ℕ → ℕ → List Edge
redirected_all off y m₀ es v = map (redirected off y es) (incident_edges (edge_end off es) m₀ v)

-- where a mark above `lo` says that an edge stands; m where it says nothing
abbrev pub place : ℕ → ℕ → ℕ → ℕ
place lo m x = cond (leb x lo) m (x - 1)

-- the mark of each of n vertices says where the edge between it and y stands, of m edges
pub record EdgeMarks (off y n lo m : ℕ) (es mp : List ℕ) : Type 0 where
  pub room : n ≤ length mp
  pub low : lo ≤ m
  pub most : (x : ℕ) → x < n → get_or mp x 0 ≤ m
  pub is : (x : ℕ) → x < n → place lo m (get_or mp x 0) ≡ find_edge (new_from off y x) (new_to off y x) (edges_in m es)

-- edge e can be redirected
pub record OneReady (off y n lo m : ℕ) (es mp : List ℕ) (e : ℕ) : Type 0 where
  pub off-low : off ≤ 1
  pub here : 4 * e + 4 ≤ length es
  pub other : edge_end (1 - off) es e < n
  pub marks : EdgeMarks off y n lo m es mp
  pub room : 4 * m + 4 ≤ length es
  pub small : m + 1 < 4294967296

-- it is added with y at its end `off`, or joined to the one that is there, and the marks are right again
pub record OneDone (off y n lo m : ℕ) (es : List ℕ) (e k : ℕ) (es' mp' : List ℕ) : Type 0 where
  pub is : edges_in k es' ≡ add_or_update_edges (redirected off y es e ∷ []) (edges_in m es)
  pub marks : EdgeMarks off y n lo k es' mp'

-- the edges of v can be redirected: there is room for them all, and for one more
pub record Redirectable (off y n lo m₀ m : ℕ) (es heads nexts mp : List ℕ) (v : ℕ) : Type 0 where
  pub off-low : off ≤ 1
  pub below : v < n
  pub new : n ≤ y
  pub behind : m₀ ≤ m
  pub indexed : Indexed m₀ n es heads nexts
  pub marks : EdgeMarks off y n lo m es mp
  pub room : 4 * length (add_or_update_edges (redirected_all off y m₀ es v) (edges_in m es)) + 4 ≤ length es
  pub small : length (add_or_update_edges (redirected_all off y m₀ es v) (edges_in m es)) + 1 < 4294967296

-- they are added or joined in order; the first m₀ edges stay as they were
pub record Redirected (off y n lo m₀ m : ℕ) (es : List ℕ) (v k : ℕ) (es' mp' : List ℕ) : Type 0 where
  pub is : edges_in k es' ≡ add_or_update_edges (redirected_all off y m₀ es v) (edges_in m es)
  pub old : (j : ℕ) → j < m₀ → edge_in es' j ≡ edge_in es j
  pub marks : EdgeMarks off y n lo k es' mp'
