-- `non_ref_paths::clean_between` meets its contract.
use native.Mathlib.Omega.{arith}
use mathlib.Core.Path.{refl, ◌∙◌}
use Rattle.reach.proofs.ReachLaws.{walkable-kept}
use Rattle.non_ref_paths.proofs.CleanNonRefLaws.{left-compactable, between-reduced}
use Rattle.non_ref_paths.proofs.clean_between.Goals as goal

pub drop_edges-a-requires : goal.drop_edges-a-requires
drop_edges-a-requires c =
    (c.requires.0, (omega arith, (c.requires.1.1.0, (c.requires.1.1.1.1.0, c.requires.1.1.1.1.1))))

pub drop_edges-b-requires : goal.drop_edges-b-requires
drop_edges-b-requires c = (
  c.requires.1.0,
  (
    omega arith,
    (
      omega (arith, c.requires.1.1.0, c.drop_edges-a.ensures.0.most),
      (
        c.drop_edges-a.ensures.1,
        walkable-kept c.requires.1.1.1.1.1 c.drop_edges-a.auto.tried
            c.drop_edges-a.auto.nodes,
      ),
    ),
  ),
)

pub remove_singleton_orphan_vertices-requires : goal.remove_singleton_orphan_vertices-requires
remove_singleton_orphan_vertices-requires c = (
  left-compactable c.args.held c.args.s c.args.t c.drop_edges-a.ensures.0
      c.drop_edges-b.ensures.0 c.requires.1.1.1.0
      (c.drop_edges-b.auto.es ∙ c.drop_edges-a.auto.es)
      c.drop_edges-b.ensures.1.ends,
  c.drop_edges-b.ensures.1,
)

pub returns : goal.returns
returns c =
    between-reduced
    c.args.held
    c.args.s
    c.args.t
    c.drop_edges-a.ensures.0
    c.drop_edges-b.ensures.0 refl
    c.remove_singleton_orphan_vertices.ensures
