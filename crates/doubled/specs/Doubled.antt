-- Edges with the same ends, found by marks. Assumes nothing.
use Rattle.std.specs.Prelude.{◌≡◌, Bool, true, false, List, ℕ, ◌+◌, ◌≤◌, ◌<◌, length, get_or}
use Rattle.index.specs.Index.{edge_end}

-- two of the m edges leave v and enter the same vertex
pub record Twins (m : ℕ) (es : List ℕ) (v : ℕ) : Type 0 where
  pub first : ℕ
  pub second : ℕ
  pub order : first < second
  pub below : second < m
  pub from_first : edge_end 0 es first ≡ v
  pub from_second : edge_end 0 es second ≡ v
  pub to_same : edge_end 1 es first ≡ edge_end 1 es second

-- a mark for each of n vertices; the marks are their numbers plus 1
pub record Markable (n : ℕ) (marks : List ℕ) : Type 0 where
  pub room : n ≤ length marks
  pub small : n < 4294967296

-- no mark is above b
pub record Stale (n b : ℕ) (marks : List ℕ) : Type 0 where
  pub at : (t : ℕ) → t < n → get_or marks t 0 ≤ b

pub record DoubledFrom (m n : ℕ) (es : List ℕ) (v : ℕ) (r : Bool) (marks : List ℕ) : Type 0 where
  pub yes : r ≡ true → Twins m es v
  pub no : r ≡ false → Twins m es v → ⊥
  pub stale : Stale n (v + 1) marks
