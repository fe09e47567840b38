-- What the loops of a zip do to the slices. Assumes nothing.
use Rattle.std.specs.Prelude.{◌≡◌, List, ◌++◌, map, ℕ, ◌+◌, ◌<◌, get_or}
use Rattle.defs.specs.SeqGraph.{Edge}
use Rattle.store.specs.Store.{edges_in, nums_in}

pub record EachItsOwn (n : ℕ) (froms : List ℕ) : Type 0 where
  pub at : (v : ℕ) → v < n → get_or froms v 0 ≡ v

-- the edge leaves what froms has for the vertex that it left
abbrev pub edge_with_from : List ℕ → Edge → Edge
edge_with_from froms e = record { from = get_or froms e.from 0; to = e.to; support = e.support; is_ref = e.is_ref; capped = e.capped }

pub record AllEdgesMoved (m : ℕ) (es froms es' : List ℕ) : Type 0 where
  pub is : edges_in m es' ≡ map (edge_with_from froms) (edges_in m es)

pub record NodesAppended (k c : ℕ) (dst src dst' : List ℕ) : Type 0 where
  pub is : nums_in (k + c) dst' ≡ nums_in k dst ++ nums_in c src
