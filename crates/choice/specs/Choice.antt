-- The room of cleanup, and the graph of the choice in slices. Assumes nothing.
use Rattle.std.specs.Prelude.{◌≡◌, List, ℕ, ◌+◌, ◌*◌, ◌/◌, ◌≤◌, ◌<◌, length}
use Rattle.defs.specs.SeqGraph.{Graph}
use Rattle.defs.specs.Simplify.{sequence_bytes}
use Rattle.defs.specs.Cleanup.{before_choice}
use Rattle.laws.proofs.Fuel.{Good}
use Rattle.laws.proofs.Measures.{weight}
use Rattle.laws.proofs.Branching.{branching}
use Rattle.store.specs.Store.{Within}
use Rattle.memory.specs.Memory.{graph_of, work_of, vertex_room, edge_room, signature_room, Room, Holds, Scratch, Countable}
use Rattle.memory.specs.declared.Held.{Held}
use Rattle.memory.specs.declared.Work.{Work}

-- no rewrite made yet
abbrev pub fresh : Held → Work
fresh h = record { held = h; rewrites = 0 }

pub record Zippable (h : Held) (es vs p heads nexts nodes mp starts : List ℕ) : Type 0 where
  pub room : Room es vs p heads nexts nodes mp
  pub holds : Holds h es vs p heads nexts
  pub starts-room : length heads ≤ 2 * length starts + 1

-- A sound graph that the room is for, whatever vertices go: neither a rewrite nor a removal raises N, the bytes or S. N leaves room for one
-- vertex more, the empty one at the end; S, a quarter of the bytes and the vertices' room are at most the edges' room.
pub record Lean (g : Graph) (heads nexts : List ℕ) : Type 0 where
  pub good : Good g
  pub light : weight g < vertex_room heads
  pub narrow : branching g + sequence_bytes g.verts / 4 + vertex_room heads ≤ edge_room nexts

pub record HoldsLean (h : Held) (es vs p heads nexts : List ℕ) : Type 0 where
  pub lean : Lean (graph_of h es vs p) heads nexts
  pub within : Within h.used h.n vs
  pub used-room : h.used ≤ vertex_room heads

-- a held graph, room for its rewrites and for the lists of a round
pub record Cleanable (h : Held) (es vs p heads nexts nodes mp starts tried sig : List ℕ) : Type 0 where
  pub room : Room es vs p heads nexts nodes mp
  pub holds : HoldsLean h es vs p heads nexts
  pub scratch : Scratch heads starts tried
  pub sig-room : signature_room heads nexts ≤ length sig
  pub countable : Countable 501 0 heads

-- the graph of the choice and the rewrites
pub record BeforeChoice (h : Held) (es vs p heads nexts : List ℕ) (r : Work) (es' vs' p' : List ℕ) : Type 0 where
  pub is : work_of r es' vs' p' ≡ before_choice (graph_of h es vs p)
  pub holds : HoldsLean r.held es' vs' p' heads nexts
  pub most : r.rewrites ≤ 203 * vertex_room heads
