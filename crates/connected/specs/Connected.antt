-- Marks of the vertices that go because no walk reaches them. Assumes nothing.
use Rattle.std.specs.Prelude.{◌≡◌, false, ◌&&◌, List, ℕ, ◌<◌, get_or}
use Rattle.defs.specs.Lists.{elem_of}
use Rattle.defs.specs.Cleanup.{reached}
use Rattle.store.specs.Store.{is_set, graph_in}
use Rattle.compact.specs.Compact.{unmarked}
use Rattle.reach.specs.Reach.{walk_step}

-- of n vertices those stay that stayed and have a mark
pub record Missed (n : ℕ) (marks mp mp' : List ℕ) : Type 0 where
  pub at : (v : ℕ) → v < n → unmarked mp' v ≡ unmarked mp v && is_set (get_or marks v 0)

-- of n vertices those stay that stayed and are reached from s
pub record Unreached (kind m n : ℕ) (es : List ℕ) (s : ℕ) (mp mp' : List ℕ) : Type 0 where
  pub at : (k : ℕ) (vs p : List ℕ) (v : ℕ) → v < n → unmarked mp' v ≡ unmarked mp v && elem_of v (reached (walk_step false kind) (graph_in k n m es vs p) s)
