-- `zip_linear_chains::zip_linear_chains` meets its contract.
use native.Mathlib.Omega.{arith}
use mathlib.Core.Path.{refl, ◌∙◌}
use Rattle.zip_linear_chains.proofs.ZippedLaws.{zip-none, zip-compactable, zip-below, zip-packable, zip-countable, zip-zipped}
use Rattle.zip_linear_chains.proofs.zip_linear_chains.Goals as goal

pub returns-then-all-eq0 : goal.returns-then-all-eq0
returns-then-all-eq0 c =
    zip-none
    c.requires.0
    c.absorb_chains-all.ensures
    c.if-all-eq0.true
    c.absorb_chains-all.auto.nodes
    c.absorb_chains-all.auto.rest

pub remove_vertices_by_id-left-requires : goal.remove_vertices_by_id-left-requires
remove_vertices_by_id-left-requires c = (
  zip-compactable c.requires.0 c.absorb_chains-all.ensures
      c.absorb_chains-all.auto.vs c.absorb_chains-all.auto.p
      c.absorb_chains-all.auto.nodes c.move_all_edges.ensures
      c.move_all_edges.auto.es c.absorb_chains-all.auto.rest,
  zip-below c.requires.0 c.absorb_chains-all.ensures c.absorb_chains-all.auto.vs
      c.absorb_chains-all.auto.p c.absorb_chains-all.auto.nodes
      c.move_all_edges.ensures c.move_all_edges.auto.es,
)

pub pack-used-requires : goal.pack-used-requires
pack-used-requires c =
    zip-packable
    c.requires.0
    c.absorb_chains-all.ensures
    c.absorb_chains-all.auto.vs
    c.absorb_chains-all.auto.p
    c.absorb_chains-all.auto.nodes
    c.move_all_edges.ensures
    c.move_all_edges.auto.es
    c.remove_vertices_by_id-left.ensures refl
    c.remove_vertices_by_id-left.auto.vs

pub overflow_add-result : goal.overflow_add-result
overflow_add-result c =
    omega (
      arith,
      zip-countable c.requires.0 c.absorb_chains-all.ensures
          c.absorb_chains-all.auto.vs c.absorb_chains-all.auto.p
          c.absorb_chains-all.auto.nodes c.move_all_edges.ensures
          c.move_all_edges.auto.es c.remove_vertices_by_id-left.ensures
          c.pack-used.ensures c.pack-used.auto.p,
    )

pub returns : goal.returns
returns c =
    zip-zipped
    c.requires.0
    c.absorb_chains-all.ensures
    c.absorb_chains-all.auto.vs
    c.absorb_chains-all.auto.p
    c.absorb_chains-all.auto.nodes
    c.move_all_edges.ensures
    c.move_all_edges.auto.es
    c.remove_vertices_by_id-left.ensures
    c.pack-used.ensures
    c.pack-used.auto.p
    c.build_index.ensures
    c.build_index.auto.heads
    c.build_index.auto.nexts
    c.remove_vertices_by_id-left.auto.es
    c.pack-used.auto.vs
    c.remove_vertices_by_id-left.auto.vs
    (c.remove_vertices_by_id-left.auto.map
    ∙ c.absorb_chains-all.auto.rest)
