-- A text put into a slice. Assumes nothing.
use Rattle.std.specs.Prelude.{◌≡◌, List, ℕ, ◌+◌, ◌≤◌, length}
use Rattle.std.proofs.lemmas.List.Edits.{sets}

-- s, of at most so many bytes, stands at `at` to r, and nothing else changed
pub record TextPut (most : ℕ) (s text : List ℕ) (at r : ℕ) (text' : List ℕ) : Type 0 where
  pub size : length s ≤ most
  pub end : r ≡ at + length s
  pub is : text' ≡ sets text at s
