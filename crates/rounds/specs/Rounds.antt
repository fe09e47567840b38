-- What rounds leave. Assumes nothing.
use Rattle.std.specs.Prelude.{◌≡◌, List, [], ℕ, ◌+◌, ◌*◌, ◌≤◌}
use Rattle.defs.specs.Simplify as S
use Rattle.defs.specs.Simplify.{simplify_graph_once, rounds_from, simplify_graph_full, end_number}
use Rattle.memory.specs.Memory.{graph_of, work_of, vertex_room, Holds, Ready}
use Rattle.memory.specs.declared.Held.{Held}
use Rattle.memory.specs.declared.Work.{Work}
use Rattle.rounds.specs.declared.Simplified.{Simplified}

-- a run that ended: its work, the rounds, the number of its end
abbrev pub ended : Work → ℕ → ℕ → Simplified
ended w rounds end = record { held = w.held; rewrites = w.rewrites; rounds = rounds; end = end }

pub record Once (least : ℕ) (w : Work) (es vs p : List ℕ) (r : Work) (es' vs' p' heads' nexts' nodes' mp' : List ℕ) : Type 0 where
  pub ready : Ready least r.held es' vs' p' heads' nexts' nodes' mp'
  pub is : work_of r es' vs' p' ≡ simplify_graph_once least (work_of w es vs p)
  pub most : r.rewrites ≤ w.rewrites + 5 * vertex_room heads'

-- the answer r, with the graph in the slices, is the definition's s
pub record SimplifiedTo (s : S.Simplified) (r : Simplified) (es vs p : List ℕ) : Type 0 where
  pub graph : graph_of r.held es vs p ≡ s.graph
  pub rewrites : r.rewrites ≡ s.rewrites
  pub rounds : r.rounds ≡ s.rounds
  pub end : r.end ≡ end_number s.end

pub record Whole (least : ℕ) (w : Work) (es vs p heads nexts : List ℕ) (r : Simplified) (es' vs' p' : List ℕ) : Type 0 where
  pub answers : SimplifiedTo (rounds_from least 100 0 [] (work_of w es vs p)) r es' vs' p'
  pub holds : Holds r.held es' vs' p' heads nexts

-- the answer is that of the whole simplification
pub record Full (least : ℕ) (h : Held) (es vs p heads nexts : List ℕ) (r : Simplified) (es' vs' p' : List ℕ) : Type 0 where
  pub answers : SimplifiedTo (simplify_graph_full least (graph_of h es vs p)) r es' vs' p'
  pub holds : Holds r.held es' vs' p' heads nexts
