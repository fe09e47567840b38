-- Rewrites by kind, and what doing one until no vertex allows it leaves. Assumes nothing.
use Rattle.std.specs.Prelude.{◌≡◌, Bool, true, false, List, ℕ, ◌+◌, ◌≤◌}
use Rattle.std.proofs.Math.Option.{Option, none}
use Rattle.defs.specs.SeqGraph.{Graph}
use Rattle.defs.specs.Rewrites.{try_merge_diamond, try_merge_tails, try_merge_common_suffices}
use Rattle.defs.specs.Simplify.{RewriteKind, zip, diamond, tails, split, merge, transform_until_complete, fuel_for}
use Rattle.memory.specs.Memory.{graph_of, work_of, vertex_room, Ready}
use Rattle.memory.specs.declared.Work.{Work}

-- the rewrite of a kind at the vertex v; zips take whole chains, and splits have marks: no vertex alone allows one
abbrev pub rewrite_of : RewriteKind → ℕ → Graph → ℕ → Option Graph
rewrite_of zip least g v = none
rewrite_of diamond least g v = try_merge_diamond g v
rewrite_of tails least g v = try_merge_tails least g v
rewrite_of split least g v = none
rewrite_of merge least g v = try_merge_common_suffices g v

-- whether a vertex alone allows a rewrite of this kind
abbrev pub is_transform : RewriteKind → Bool
is_transform zip = false
is_transform diamond = true
is_transform tails = true
is_transform split = false
is_transform merge = true

-- the rewrites of the kind
pub record Completed (kind : RewriteKind) (least : ℕ) (w : Work) (es vs p : List ℕ) (r : Work) (es' vs' p' heads' nexts' nodes' mp' : List ℕ) : Type 0 where
  pub ready : Ready least r.held es' vs' p' heads' nexts' nodes' mp'
  pub is : work_of r es' vs' p' ≡ transform_until_complete (rewrite_of kind least) (fuel_for (graph_of w.held es vs p)) (work_of w es vs p)
  pub most : r.rewrites ≤ w.rewrites + vertex_room heads'
