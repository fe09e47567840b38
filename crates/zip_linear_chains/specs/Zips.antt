-- What zipping does to the slices. Assumes nothing.
use Rattle.std.specs.Prelude.{◌≡◌, List, ℕ, ◌+◌, ◌≤◌, ◌<◌}
use Rattle.defs.specs.Zip.{zip_linear_chains}
use Rattle.index.specs.Index.{Indexed}
use Rattle.memory.specs.Memory.{work_of, Room, Holds}
use Rattle.memory.specs.declared.Work.{Work}

-- the graph is held and indexed, there is room, and the rewrites can be counted on: each zip takes a vertex away
pub record ReadyToZip (w : Work) (es vs p heads nexts nodes mp : List ℕ) : Type 0 where
  pub room : Room es vs p heads nexts nodes mp
  pub holds : Holds w.held es vs p heads nexts
  pub indexed : Indexed w.held.m w.held.n es heads nexts
  pub countable : w.rewrites + w.held.n < 4294967296

-- what zipping all leaves
pub record ZippedAll (w : Work) (es vs p : List ℕ) (r : Work) (es' vs' p' heads' nexts' nodes' mp' : List ℕ) : Type 0 where
  pub ready : ReadyToZip r es' vs' p' heads' nexts' nodes' mp'
  pub is : work_of r es' vs' p' ≡ zip_linear_chains (work_of w es vs p)
  pub less : r.rewrites + r.held.n ≤ w.rewrites + w.held.n
