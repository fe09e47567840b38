-- What a list of vertices spells, and writing it. Assumes nothing.
use Rattle.std.specs.Prelude.{◌≡◌, cond, List, ◌++◌, map, ℕ, ◌+◌, ◌*◌, ◌≤◌, ◌<◌, length, get_or, drop, leb, Some, None}
use Rattle.std.specs.Prelude as std
use Rattle.std.proofs.Math.Option.{Option, none, some}
use Rattle.std.proofs.Math.Seq.{paste}
use Rattle.defs.specs.Lists.{concat}
use Rattle.store.specs.Store.{nodes_length}
use Rattle.store.specs.Store.{seq_in, nums_in}

-- the sequence of v is within the pool, and there is room for it at `at`
pub record Puttable (vs p : List ℕ) (v : ℕ) (out : List ℕ) (at : ℕ) : Type 0 where
  pub vs-room : 2 * v + 2 ≤ length vs
  pub within : get_or vs (2 * v) 0 + get_or vs (2 * v + 1) 0 ≤ length p
  pub room : at + get_or vs (2 * v + 1) 0 ≤ length out

-- it stands at `at` to r, and nothing else changed
pub record SequencePut (vs p : List ℕ) (v : ℕ) (out : List ℕ) (at r : ℕ) (out' : List ℕ) : Type 0 where
  pub end : r ≡ at + get_or vs (2 * v + 1) 0
  pub is : out' ≡ paste out at (drop (get_or vs (2 * v) 0) p) (get_or vs (2 * v + 1) 0)

-- the sequences of the first c of the nodes, joined
abbrev pub spelled_in : List ℕ → List ℕ → List ℕ → ℕ → List ℕ
spelled_in vs p nodes c = concat (map (seq_in vs p) (nums_in c nodes))

-- the first c of the nodes are vertices whose sequences are within the pool, and together not longer than it
pub record Listed (vs p nodes : List ℕ) (c : ℕ) : Type 0 where
  pub nodes-room : c ≤ length nodes
  pub vs-room : (i : ℕ) → i < c → 2 * get_or nodes i 0 + 2 ≤ length vs
  pub within : (i : ℕ) → i < c → get_or vs (2 * get_or nodes i 0) 0 + get_or vs (2 * get_or nodes i 0 + 1) 0 ≤ length p
  pub total : nodes_length vs nodes c ≤ length p

-- the r bytes s stand at the front, and the rest is as it was
pub record BytesWritten (s out : List ℕ) (r : ℕ) (out' : List ℕ) : Type 0 where
  pub size : r ≡ length s
  pub is : out' ≡ s ++ drop r out

-- the length of s is told; s is written where it fits, and nothing where it does not
pub record Answered (s out : List ℕ) (r : ℕ) (out' : List ℕ) : Type 0 where
  pub size : r ≡ length s
  pub is : r ≤ length out → out' ≡ s ++ drop r out
  pub kept : length out < r → out' ≡ out

-- how many bytes an answer tells of
abbrev pub count_of : std.Option ℕ → Option ℕ
count_of (Some n) = some n
count_of None = none

-- how many bytes there are
unfoldable pub count_in : Option (List ℕ) → Option ℕ
count_in none = none
count_in (some s) = some (length s)

-- the output with the bytes at its front, where there are any and they fit
unfoldable pub with_front : Option (List ℕ) → List ℕ → List ℕ
with_front none out = out
with_front (some s) out = cond (leb (length s) (length out)) (s ++ drop (length s) out) out

-- the bytes that the definition makes, if it makes any, are counted, and written where they fit
pub record Told (o : Option (List ℕ)) (out : List ℕ) (r : std.Option ℕ) (out' : List ℕ) : Type 0 where
  pub is : count_of r ≡ count_in o
  pub written : out' ≡ with_front o out
