-- The shapes of diamond and tails, tested over the index. Assumes nothing.
use Rattle.std.specs.Prelude.{◌≡◌, Bool, ◌&&◌, List, ℕ, length, eqb, ltb}
use Rattle.defs.specs.Lists.{all_of}
use Rattle.defs.specs.Rewrites.{is_diamond, is_tails}
use Rattle.store.specs.Store.{graph_in, nums_in}
use Rattle.index.specs.Index.{edge_end, incident_edges}

-- every edge from v enters b
abbrev pub all_enter : ℕ → List ℕ → ℕ → ℕ → Bool
all_enter m es v b = all_of (λ (e : ℕ). eqb b (edge_end 1 es e)) (incident_edges (edge_end 0 es) m v)

-- how many edges leave and enter v
abbrev pub out_count : ℕ → List ℕ → ℕ → ℕ
out_count m es v = length (incident_edges (edge_end 0 es) m v)

abbrev pub in_count : ℕ → List ℕ → ℕ → ℕ
in_count m es v = length (incident_edges (edge_end 1 es) m v)

-- v is a middle above b, or a tail
abbrev pub is_middle : ℕ → List ℕ → ℕ → ℕ → Bool
is_middle m es b v = eqb (in_count m es v) 1 && (ltb 0 (out_count m es v) && all_enter m es v b)

abbrev pub is_tail : ℕ → List ℕ → ℕ → Bool
is_tail m es v = eqb (out_count m es v) 0 && eqb (in_count m es v) 1

-- the answer is the definition's, whatever k, the vertices and the pool
pub record Diamond (m n : ℕ) (es nodes : List ℕ) (c b : ℕ) (r : Bool) : Type 0 where
  pub is : (k : ℕ) (vs p : List ℕ) → r ≡ is_diamond (graph_in k n m es vs p) (nums_in c nodes) b

pub record Tails (m n : ℕ) (es nodes : List ℕ) (c : ℕ) (r : Bool) : Type 0 where
  pub is : (k : ℕ) (vs p : List ℕ) → r ≡ is_tails (graph_in k n m es vs p) (nums_in c nodes)
