-- Moving bytes within the pool. Assumes nothing.
use Rattle.std.specs.Prelude.{◌≡◌, ◌⊎◌, List, ℕ, ◌+◌, ◌*◌, ◌≤◌, ◌<◌, length, get_or}
use Rattle.defs.specs.Lists.{tab, sum}
use Rattle.store.specs.Store.{part, seq_in, seqs_in, Within}

-- two parts of n bytes that do not overlap
pub record Apart (p : List ℕ) (to from n : ℕ) : Type 0 where
  pub to_room : to + n ≤ length p
  pub from-room : from + n ≤ length p
  pub apart : (from + n ≤ to) ⊎ (to + n ≤ from)

-- n bytes were copied, and nothing else changed
pub record Moved (p : List ℕ) (to from n : ℕ) (p' : List ℕ) : Type 0 where
  pub copied : (i : ℕ) → i < n → get_or p' (to + i) 0 ≡ get_or p (from + i) 0
  pub before : (k : ℕ) → k < to → get_or p' k 0 ≡ get_or p k 0
  pub behind : (k : ℕ) → to + n ≤ k → get_or p' k 0 ≡ get_or p k 0

-- the lengths of the first n vertices together
abbrev pub bytes_in : ℕ → List ℕ → ℕ
bytes_in n vs = sum (tab n (λ (v : ℕ). get_or vs (2 * v + 1) 0))

-- the sequences are before `base`, and there is room for them behind it, and before it
pub record Packable (n : ℕ) (vs p : List ℕ) (base : ℕ) : Type 0 where
  pub vs-room : 2 * n ≤ length vs
  pub within : Within base n vs
  pub room : base + bytes_in n vs ≤ length p
  pub front : bytes_in n vs ≤ base
  pub small : base < 4294967296

-- the n sequences are as they were; they stand one behind the other, from `base` on, where their starts are counted from
pub record Packed (base n : ℕ) (vs p : List ℕ) (used : ℕ) (vs' p' : List ℕ) : Type 0 where
  pub used-is : used ≡ bytes_in n vs
  pub starts : (v : ℕ) → v < n → get_or vs' (2 * v) 0 ≡ bytes_in v vs
  pub sizes : (v : ℕ) → v < n → get_or vs' (2 * v + 1) 0 ≡ get_or vs (2 * v + 1) 0
  pub bytes : (v : ℕ) → v < n → (i : ℕ) → i < get_or vs (2 * v + 1) 0 → get_or p' (base + bytes_in v vs + i) 0 ≡ get_or p (get_or vs (2 * v) 0 + i) 0
