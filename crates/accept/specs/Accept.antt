-- A record of kind 1 that is read, and the room that reading a record takes. Assumes nothing.
use Rattle.std.specs.Prelude.{◌≡◌, Result, Ok, List, ℕ, ◌*◌, ◌≤◌, length}
use Rattle.defs.specs.Record.{vertices_of, edges_of}
use Rattle.defs.specs.Refusals.{sequence_only, record_refusal}
use Rattle.record.specs.Layout.{WellFormed}
use Rattle.memory.specs.declared.Held.{Held}
use Rattle.load.specs.Loaded.{Loaded}
use Rattle.refusal.specs.Refusals.{refused_by}
use Rattle.refusal.specs.declared.Refusal.{Refusal}

-- Room for the record's graph, by the record's own counts: its edges and vertices, an index of both, and two numbers for each vertex. The
-- sequences stay in the record.
pub record RoomFor (bs es vs heads nexts nodes mp : List ℕ) : Type 0 where
  pub es-room : 4 * edges_of bs ≤ length es
  pub vs-room : 2 * vertices_of bs ≤ length vs
  pub heads-room : 2 * vertices_of bs ≤ length heads
  pub nexts-room : 2 * edges_of bs ≤ length nexts
  pub nodes-room : vertices_of bs ≤ length nodes
  pub mp-room : vertices_of bs ≤ length mp

-- there is room if the record's layout is right
pub record RoomToRead (bs es vs heads nexts nodes mp : List ℕ) : Type 0 where
  pub room : WellFormed bs → RoomFor bs es vs heads nexts nodes mp

-- and a mark more for each vertex
pub record RoomToMark (bs es vs heads nexts nodes mp marks : List ℕ) : Type 0 where
  pub reading : RoomToRead bs es vs heads nexts nodes mp
  pub marks-room : WellFormed bs → vertices_of bs ≤ length marks

-- the number is the definition's; a graph that was read is the record's
pub record ReadAs (bs : List ℕ) (r : Result Held Refusal) (es vs : List ℕ) : Type 0 where
  pub number : refused_by r ≡ record_refusal sequence_only bs
  pub loaded : (h : Held) → r ≡ Ok h → Loaded bs h es vs
