-- The part of a record that is handed back for a vertex.
-- Assumes nothing.
use Rattle.std.specs.Prelude.{ℕ, ◌≡◌, List}
use Rattle.defs.specs.SeqGraph.{vertex_sequence}
use Rattle.defs.specs.Record.{sequence_at, decode}

pub record Part (bs : List ℕ) (v : ℕ) (r : List ℕ) : Type 0 where
  pub bytes : r ≡ sequence_at bs v
  pub vertex : r ≡ vertex_sequence (decode bs) v
