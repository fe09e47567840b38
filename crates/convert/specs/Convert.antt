-- The vertices of a k-mer graph that is converted. Assumes nothing.
use Rattle.std.specs.Prelude.{◌≡◌, List, ℕ, ◌+◌, ◌*◌, ◌≤◌, ◌<◌, length, get_or}
use Rattle.defs.specs.Lists.{tab}
use Rattle.defs.specs.Assembly.{additional_sequence, edges_sorted}
use Rattle.store.specs.Store.{edges_in, seq_in, seqs_in, graph_in, EndsBelow, Within}
use Rattle.sort.specs.Sort.{Permutation}
use Rattle.kmer_order.specs.Order.{KmerOrder}

-- n vertices, none of them empty
pub record Trimmable (n : ℕ) (vs : List ℕ) : Type 0 where
  pub vs-room : 2 * n ≤ length vs
  pub whole : (v : ℕ) → v < n → 1 ≤ get_or vs (2 * v + 1) 0
  pub small : (v : ℕ) → v < n → get_or vs (2 * v) 0 + get_or vs (2 * v + 1) 0 < 4294967296

-- each vertex has its additional sequence, within its old one
pub record Trimmed (m n : ℕ) (es vs vs' : List ℕ) : Type 0 where
  pub is : (k : ℕ) (p : List ℕ) → Within (length p) n vs → seqs_in n vs' p ≡ tab n (additional_sequence (graph_in k n m es vs p))
  pub within : (used : ℕ) → Within used n vs → Within used n vs'
  pub shorter : (v : ℕ) → v < n → get_or vs' (2 * v + 1) 0 ≤ get_or vs (2 * v + 1) 0

-- the k-mers are distinct, and no edge is there twice
pub record Separate (m n : ℕ) (es vs p : List ℕ) : Type 0 where
  pub kmers : (u v : ℕ) → u < n → v < n → seq_in vs p u ≡ seq_in vs p v → u ≡ v
  pub edges : (a b : ℕ) → a < m → b < m → get_or es (4 * a) 0 ≡ get_or es (4 * b) 0 → get_or es (4 * a + 1) 0 ≡ get_or es (4 * b + 1) 0 → a ≡ b

-- place has where each number stands in the order
pub record Places (n : ℕ) (order place : List ℕ) : Type 0 where
  pub at : (i : ℕ) → i < n → get_or place (get_or order i 0) 0 ≡ i

-- m edges in some order, and room for as many
pub record EdgesCopyable (m : ℕ) (es order out : List ℕ) : Type 0 where
  pub es-room : 4 * m ≤ length es
  pub numbers : Permutation m order
  pub out-room : 4 * m ≤ length out

-- the vertices in some order, and room for the numbers of the edges, and for the edges once more
pub record Convertible (m n : ℕ) (es order scratch place out : List ℕ) : Type 0 where
  pub numbers : Permutation n order
  pub ends : EndsBelow n m es
  pub es-room : 4 * m ≤ length es
  pub order-edges : m ≤ length order
  pub scratch-edges : m ≤ length scratch
  pub place-room : n ≤ length place
  pub out-room : 4 * m ≤ length out
  pub few-vertices : n < 4294967296
  pub few-edges : m < 4294967296

-- the edges, in the order of the k-mers where the vertices were in that order
pub record EdgesSorted (m n : ℕ) (es order out : List ℕ) : Type 0 where
  pub is : (k : ℕ) (vs p : List ℕ) → Separate m n es vs p → KmerOrder n vs p order → edges_in m out ≡ edges_sorted (graph_in k n m es vs p)
  pub ends : EndsBelow n m out
