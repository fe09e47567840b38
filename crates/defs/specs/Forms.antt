-- The two forms of a record, SGR1 and SGR2: mark, places, sizes and limits of each, as tables. SGR2 has wider fields and larger limits.
-- Assumes nothing.
use Rattle.std.specs.Prelude.{ℕ, true, false, List, [], ◌∷◌, take}
use Rattle.defs.specs.Lists.{same_list}

pub data Form : Type 0 where
  sgr1 sgr2 : Form

-- the four letters SGR1, the four letters SGR2
unfoldable pub mark : Form → List ℕ
mark sgr1 = 83 ∷ 71 ∷ 82 ∷ 49 ∷ []
mark sgr2 = 83 ∷ 71 ∷ 82 ∷ 50 ∷ []

-- A record that begins SGR2 is judged and read as SGR2, every other one as SGR1.
unfoldable pub form_of : List ℕ → Form
form_of bs = elim (same_list (take 4 bs) (mark sgr2)) [ true ↦ sgr2 | false ↦ sgr1 ]

-- how many bytes a word has: a count of vertices or edges, a vertex's length, an end of an edge
unfoldable pub word_size : Form → ℕ
word_size sgr1 = 2
word_size sgr2 = 4

-- where the header's seven fields behind k stand
pub record HeaderPlaces : Type 0 where
  pub vertices : ℕ
  pub edges : ℕ
  pub bytes : ℕ
  pub lengths_offset : ℕ
  pub edges_offset : ℕ
  pub bytes_offset : ℕ
  pub whole : ℕ

unfoldable pub places : Form → HeaderPlaces
places sgr1 = record { vertices = 8; edges = 10; bytes = 12; lengths_offset = 16; edges_offset = 20; bytes_offset = 24; whole = 28 }
places sgr2 = record { vertices = 8; edges = 12; bytes = 16; lengths_offset = 20; edges_offset = 24; bytes_offset = 28; whole = 32 }

-- where the lengths stand: behind the header
unfoldable pub lengths_at : Form → ℕ
lengths_at sgr1 = 32
lengths_at sgr2 = 36

-- an edge: from and to, a word each, support in four bytes, flag in one
unfoldable pub edge_size : Form → ℕ
edge_size sgr1 = 9
edge_size sgr2 = 13

-- the most that a record handed in may have (bytes: in kind 1, and of what conversion makes), and the most that an answer has
pub record FormLimits : Type 0 where
  pub vertices : ℕ
  pub edges : ℕ
  pub bytes : ℕ
  pub answer_vertices : ℕ
  pub answer_edges : ℕ

unfoldable pub limits : Form → FormLimits
limits sgr1 = record { vertices = 2048; edges = 4096; bytes = 8192; answer_vertices = 10240; answer_edges = 16384 }
limits sgr2 = record { vertices = 32768; edges = 65536; bytes = 131072; answer_vertices = 163840; answer_edges = 262144 }
