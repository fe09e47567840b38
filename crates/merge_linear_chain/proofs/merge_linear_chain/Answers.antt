-- `merge_linear_chain::merge_linear_chain` meets its contract.
use native.Mathlib.Omega.{arith}
use mathlib.Core.Path.{refl, ◌∙◌}
use Rattle.merge_linear_chain.proofs.JoinLaws.{join-writable, end-high, join-compactable, join-below, join-packable, joined-all}
use Rattle.merge_linear_chain.proofs.merge_linear_chain.Goals as goal

pub write_chain-end-requires : goal.write_chain-end-requires
write_chain-end-requires c =
    join-writable c.requires.0 c.requires.1.0 c.requires.1.1.1

pub overflow_cast-end : goal.overflow_cast-end
overflow_cast-end c =
    omega (
      arith,
      end-high c.requires.0 c.requires.1.0 c.requires.1.1.1 c.write_chain-end.ensures,
      c.requires.0.small,
      c.requires.0.vertices-edges,
    )

pub remove_vertices_by_id-left-requires : goal.remove_vertices_by_id-left-requires
remove_vertices_by_id-left-requires c = (
  join-compactable c.requires.0 c.requires.1.0 c.requires.1.1.1 c.move_edges.ensures
      c.move_edges.auto.es c.put_vertex.auto.vs,
  join-below c.requires.0 c.requires.1.0 c.requires.1.1.1,
)

pub pack-used-requires : goal.pack-used-requires
pack-used-requires c =
    join-packable
    c.requires.0
    c.requires.1.0
    c.requires.1.1.1
    c.write_chain-end.ensures
    c.write_chain-end.auto.p
    c.put_vertex.ensures
    c.move_edges.ensures refl
    c.remove_vertices_by_id-left.ensures refl
    (c.remove_vertices_by_id-left.auto.vs ∙ c.put_vertex.auto.vs)

pub returns : goal.returns
returns c =
    joined-all
    c.requires.0
    c.requires.1.0
    c.requires.1.1.1
    c.write_chain-end.ensures
    c.write_chain-end.auto.p
    c.put_vertex.ensures
    c.move_edges.ensures refl
    c.remove_vertices_by_id-left.ensures
    c.pack-used.ensures
    c.pack-used.auto.p
