-- The answers about chains, whatever k, the vertices' sequences and the pool. Assumes nothing.
use Rattle.std.specs.Prelude.{◌≡◌, Bool, List, ℕ, ◌≤◌, ◌<◌, get_or}
use Rattle.defs.specs.Zip.{is_linear_chain_start, chain_goes_on, trace_linear_chain}
use Rattle.store.specs.Store.{graph_in, nums_in}

pub record ChainStart (m n : ℕ) (es : List ℕ) (v : ℕ) (r : Bool) : Type 0 where
  pub is : (k : ℕ) (vs p : List ℕ) → r ≡ is_linear_chain_start (graph_in k n m es vs p) v

pub record GoesOn (m n : ℕ) (es : List ℕ) (last next : ℕ) (r : Bool) : Type 0 where
  pub is : (k : ℕ) (vs p : List ℕ) → r ≡ chain_goes_on (graph_in k n m es vs p) last next

-- the first c numbers of out are the vertices behind start
pub record Traced (m n : ℕ) (es : List ℕ) (start c : ℕ) (out : List ℕ) : Type 0 where
  pub most : c ≤ n
  pub below : (j : ℕ) → j < c → get_or out j 0 < n
  pub is : (k : ℕ) (vs p : List ℕ) → nums_in c out ≡ trace_linear_chain n (graph_in k n m es vs p) start
