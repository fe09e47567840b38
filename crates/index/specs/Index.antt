-- The edges at a vertex, by number and in order, and the index over them. Assumes nothing.
use Rattle.std.specs.Prelude.{◌≡◌, List, map, ℕ, zero, suc, ◌+◌, ◌*◌, ◌-◌, ◌≤◌, ◌<◌, length, get_or, eqb}
use Rattle.defs.specs.Lists.{tab_from, keep_if}
use Rattle.defs.specs.SeqGraph.{Edge}
use Rattle.store.specs.Store.{nums_in, EndsBelow}

-- the end `off` of edge e: 0 from, 1 to
abbrev pub edge_end : ℕ → List ℕ → ℕ → ℕ
edge_end off es e = get_or es (4 * e + off) 0

-- the same of an edge by itself
unfoldable pub end_at : ℕ → Edge → ℕ
end_at zero e = e.from
end_at (suc n) e = e.to

-- the numbers of the edges at v from number k on, of the m that there are; f gives an end of each edge
abbrev pub at_from : (ℕ → ℕ) → ℕ → ℕ → ℕ → List ℕ
at_from f m v k = keep_if (λ (e : ℕ). eqb (f e) v) (tab_from k (m - k) (λ (e : ℕ). e))

-- the numbers of the edges at v
abbrev pub incident_edges : (ℕ → ℕ) → ℕ → ℕ → List ℕ
incident_edges f m v = at_from f m v 0

-- e is the number of the first edge at v from number k on, or m
pub record Next (f : ℕ → ℕ) (m v k e : ℕ) : Type 0 where
  pub low : k ≤ e
  pub high : e ≤ m
  pub skip : (j : ℕ) → k ≤ j → j < e → f j ≡ v → ⊥
  pub hit : e < m → f e ≡ v

-- head gives each of n vertices its first edge, next each of m edges the next one of its vertex
pub record Index (f : ℕ → ℕ) (m n : ℕ) (head next : ℕ → ℕ) : Type 0 where
  pub heads : (v : ℕ) → v < n → Next f m v 0 (head v)
  pub nexts : (e : ℕ) → e < m → Next f m (f e) (e + 1) (next e)

-- two numbers each, at offset off
abbrev pub pair_at : ℕ → List ℕ → ℕ → ℕ
pair_at off l i = get_or l (2 * i + off) 0

-- heads and nexts index the m edges of es at both ends
pub record Indexed (m n : ℕ) (es heads nexts : List ℕ) : Type 0 where
  pub room : 4 * m ≤ length es
  pub heads-room : 2 * n ≤ length heads
  pub nexts-room : 2 * m ≤ length nexts
  pub ends : EndsBelow n m es
  pub index : (off : ℕ) → off ≤ 1 → Index (edge_end off es) m n (pair_at off heads) (pair_at off nexts)

-- what building an index asks
pub record Indexable (m n : ℕ) (es heads nexts : List ℕ) : Type 0 where
  pub room : 4 * m ≤ length es
  pub heads-room : 2 * n ≤ length heads
  pub nexts-room : 2 * m ≤ length nexts
  pub small : m < 4294967296
  pub ends : EndsBelow n m es

-- the first r numbers of out are the other ends of the edges at v
pub record Collected (off m : ℕ) (es : List ℕ) (v r : ℕ) (out : List ℕ) : Type 0 where
  pub most : r ≤ m
  pub is : nums_in r out ≡ map (edge_end (1 - off) es) (incident_edges (edge_end off es) m v)
