-- The arrays of a call: what the code on slices asks of them, and how long they are. Assumes nothing.
use Rattle.std.specs.Prelude.{◌≡◌, List, ℕ, ◌+◌, ◌*◌, ◌/◌, ◌≤◌, ◌<◌, length}
use Rattle.defs.specs.Forms.{form_of}
use Rattle.defs.specs.Record.{kind_of, vertices_of, edges_of, bytes_of}
use Rattle.form.specs.Coded.{word_limit}
use Rattle.record.specs.Layout.{WellFormed}
use Rattle.memory.specs.Memory.{vertex_room, edge_room, signature_room, Room, Scratch}
use Rattle.accept.specs.Accept.{RoomToRead}
use Rattle.calls.specs.Sending.{RoomFits}

-- ---- to read

-- v vertices and e edges are enough to read the record bs, if its layout is right
pub record FewToRead (v e : ℕ) (bs : List ℕ) : Type 0 where
  pub vertices : WellFormed bs → vertices_of bs ≤ v
  pub edges : WellFormed bs → edges_of bs ≤ e

-- the class of v vertices and e edges is for the record bs: enough to read it, and no more than the limits of SGR2
pub record ClassToRead (v e : ℕ) (bs : List ℕ) : Type 0 where
  pub few : FewToRead v e bs
  pub more_edges : v ≤ e
  pub vertices-most : v ≤ 32768
  pub edges-most : e ≤ 65536

-- the lengths of arrays for v vertices and e edges (`RoomToRead`)
pub record SizedToRead (v e : ℕ) (es vs heads nexts nodes mp : List ℕ) : Type 0 where
  pub es-is : length es ≡ 4 * e
  pub vs-is : length vs ≡ 2 * v
  pub heads-is : length heads ≡ 2 * v
  pub nexts-is : length nexts ≡ 2 * e
  pub nodes-is : length nodes ≡ v
  pub mp-is : length mp ≡ v

-- the same, with a mark for each vertex (`RoomToMark`)
pub record SizedToMark (v e : ℕ) (es vs heads nexts nodes mp marks : List ℕ) : Type 0 where
  pub reading : SizedToRead v e es vs heads nexts nodes mp
  pub marks-is : length marks ≡ v

-- ---- to rewrite

-- Room for what becomes of the graph of bs, by the record's own counts: one vertex more than it has, for the empty one that cleanup may add; N,
-- which is at most V and B together; and the edges, of which there may be E and a quarter of B more than vertices.
pub record RoomToRewrite (bs heads nexts : List ℕ) : Type 0 where
  pub vertices : WellFormed bs → kind_of bs ≡ 1 → vertices_of bs < vertex_room heads
  pub weight : WellFormed bs → kind_of bs ≡ 1 → vertices_of bs + bytes_of bs ≤ vertex_room heads
  pub edges : WellFormed bs → kind_of bs ≡ 1 → edges_of bs + bytes_of bs / 4 + vertex_room heads ≤ edge_room nexts

-- the same, of v vertices and e edges
pub record FewToRewrite (v e : ℕ) (bs : List ℕ) : Type 0 where
  pub reading : FewToRead v e bs
  pub vertices : WellFormed bs → kind_of bs ≡ 1 → vertices_of bs < v
  pub weight : WellFormed bs → kind_of bs ≡ 1 → vertices_of bs + bytes_of bs ≤ v
  pub edges : WellFormed bs → kind_of bs ≡ 1 → edges_of bs + bytes_of bs / 4 + v ≤ e

-- the class of v vertices and e edges is for the record bs: enough for every rewrite of its graph, and no more than fits a record of its form
pub record ClassToRewrite (v e : ℕ) (bs : List ℕ) : Type 0 where
  pub few : FewToRewrite v e bs
  pub more_edges : v ≤ e
  pub vertices-most : v ≤ 163840
  pub edges-most : e ≤ 262144
  pub fits : e < word_limit (form_of bs)

-- what decides about the class of a record, by its counts: vertices and bytes together, edges and a quarter of the bytes
pub record CountedAt (weight surplus : ℕ) (bs : List ℕ) : Type 0 where
  pub weight_is : weight ≡ vertices_of bs + bytes_of bs
  pub surplus-is : surplus ≡ edges_of bs + bytes_of bs / 4

-- Slices lent for the record bs: room to read it and for every rewrite of its graph; and no more than fits a record of its form.
pub record LentGraph (bs es vs p heads nexts nodes mp : List ℕ) : Type 0 where
  pub room : Room es vs p heads nexts nodes mp
  pub reading : RoomToRead bs es vs heads nexts nodes mp
  pub roomy : RoomToRewrite bs heads nexts
  pub fits : RoomFits (form_of bs) heads nexts

-- the same, with the lists of a round
pub record Lent (bs es vs p heads nexts nodes mp starts tried sig : List ℕ) : Type 0 where
  pub graph : LentGraph bs es vs p heads nexts nodes mp
  pub scratch : Scratch heads starts tried
  pub sig-room : signature_room heads nexts ≤ length sig

-- the lengths of arrays for v vertices and e edges between two rewrites (`Room`)
pub record SizedGraph (v e : ℕ) (es vs p heads nexts nodes mp : List ℕ) : Type 0 where
  pub es-is : length es ≡ 8 * e
  pub vs-is : length vs ≡ 4 * v
  pub p-is : length p ≡ 3 * v
  pub heads-is : length heads ≡ 2 * v
  pub nexts-is : length nexts ≡ 2 * e
  pub nodes-is : length nodes ≡ e
  pub mp-is : length mp ≡ 2 * v

-- the same, with the lists of a round
pub record Sized (v e : ℕ) (es vs p heads nexts nodes mp starts tried sig : List ℕ) : Type 0 where
  pub graph : SizedGraph v e es vs p heads nexts nodes mp
  pub starts_is : length starts ≡ v
  pub tried-is : length tried ≡ v
  pub sig-is : length sig ≡ 2 + 2 * v + 3 * e
