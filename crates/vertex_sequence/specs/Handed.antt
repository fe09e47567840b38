-- The promises of vertex_sequence and of its form as a place. Assumes nothing.
use Rattle.std.specs.Prelude.{◌≡◌, cond, List, ℕ, eqb, take, drop}
use Rattle.defs.specs.Record.{length_at, sequence_start}
use Rattle.defs.specs.Calls.{vertex_sequence_number, vertex_sequence_part}
use Rattle.vertex_sequence.specs.declared.SequencePlace.{SequencePlace}

-- the number in the cell, and the part handed back
pub record Handed (bs : List ℕ) (v told : ℕ) (r : List ℕ) : Type 0 where
  pub number : told ≡ vertex_sequence_number bs v
  pub part : r ≡ vertex_sequence_part bs v

-- the number in the cell; where the part starts and how long it is, both 0 when refused; it is the part
pub record Placed (bs : List ℕ) (v told : ℕ) (r : SequencePlace) : Type 0 where
  pub number : told ≡ vertex_sequence_number bs v
  pub offset : r.offset ≡ cond (eqb told 0) (sequence_start bs v) 0
  pub size : r.length ≡ cond (eqb told 0) (length_at bs v) 0
  pub part : take r.length (drop r.offset bs) ≡ vertex_sequence_part bs v
