-- What sequences in the pool share, by index. Assumes nothing.
use Rattle.std.specs.Prelude.{◌≡◌, List, map, ℕ, ◌+◌, ◌*◌, ◌-◌, ◌≤◌, ◌<◌, length, get_or, drop}
use Rattle.defs.specs.Lists.{tab, common_prefix, common_suffix}
use Rattle.store.specs.Store.{part, seq_in, Within}

-- the sequences of c vertices, each within the pool
pub record Parts (n : ℕ) (vs p nodes : List ℕ) (c : ℕ) : Type 0 where
  pub vs-room : 2 * n ≤ length vs
  pub within : Within (length p) n vs
  pub room : c ≤ length nodes
  pub below : (k : ℕ) → k < c → get_or nodes k 0 < n
  pub some : 1 ≤ c

-- where the sequence of vertex k of the list starts, and how long it is
abbrev pub start_at : List ℕ → List ℕ → ℕ → ℕ
start_at vs nodes k = get_or vs (2 * get_or nodes k 0) 0

abbrev pub len_at : List ℕ → List ℕ → ℕ → ℕ
len_at vs nodes k = get_or vs (2 * get_or nodes k 0 + 1) 0

-- its byte i, from the front and from the back
abbrev pub byte_at : List ℕ → List ℕ → List ℕ → ℕ → ℕ → ℕ
byte_at vs p nodes k i = get_or p (start_at vs nodes k + i) 0

abbrev pub last_at : List ℕ → List ℕ → List ℕ → ℕ → ℕ → ℕ
last_at vs p nodes k i = get_or p (start_at vs nodes k + len_at vs nodes k - 1 - i) 0

abbrev pub seqs_at : List ℕ → List ℕ → List ℕ → ℕ → List (List ℕ)
seqs_at vs p nodes c = tab c (λ (k : ℕ). seq_in vs p (get_or nodes k 0))

-- the shared prefix is the first r bytes of the first sequence
pub record Prefix (vs p nodes : List ℕ) (c r : ℕ) : Type 0 where
  pub all : (k : ℕ) → k < c → r ≤ len_at vs nodes k
  pub is : common_prefix (seqs_at vs p nodes c) ≡ part p (start_at vs nodes 0) r

-- behind the first `skip` bytes the shared suffix is the last r bytes of the first sequence
pub record Suffix (vs p nodes : List ℕ) (skip c r : ℕ) : Type 0 where
  pub all : (k : ℕ) → k < c → r + skip ≤ len_at vs nodes k
  pub is : common_suffix (map (drop skip) (seqs_at vs p nodes c)) ≡ part p (start_at vs nodes 0 + len_at vs nodes 0 - r) r
