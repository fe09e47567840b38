-- `rounds::simplify_graph_once` meets its contract.
use native.Mathlib.Omega.{arith}
use mathlib.Core.Path.{◌∙◌}
use Rattle.rounds.proofs.OnceLaws.{with-least, any-least, zip-ready, once}
use Rattle.rounds.proofs.simplify_graph_once.Goals as goal

pub vertex_transform_until_complete-a-requires : goal.vertex_transform_until_complete-a-requires
vertex_transform_until_complete-a-requires c = (c.requires.0, record { small = omega (arith, c.requires.1.0.small) })

pub vertex_transform_until_complete-b-requires : goal.vertex_transform_until_complete-b-requires
vertex_transform_until_complete-b-requires c = (
  c.vertex_transform_until_complete-a.ensures.ready,
  record {
    small = omega (
      arith,
      c.vertex_transform_until_complete-a.ensures.most,
      c.requires.1.0.small,
      c.vertex_transform_until_complete-a.auto.heads,
    );
  },
)

pub split_until_complete-c-requires : goal.split_until_complete-c-requires
split_until_complete-c-requires c = (
  any-least c.vertex_transform_until_complete-b.ensures.ready,
  (
    record {
      small = omega (
        arith,
        c.vertex_transform_until_complete-a.ensures.most,
        c.vertex_transform_until_complete-b.ensures.most,
        c.requires.1.0.small,
        c.vertex_transform_until_complete-a.auto.heads,
        c.vertex_transform_until_complete-b.auto.heads
            ∙ c.vertex_transform_until_complete-a.auto.heads,
      );
    },
    omega (
      arith,
      c.requires.1.1.tried-room,
      c.vertex_transform_until_complete-b.auto.heads
          ∙ c.vertex_transform_until_complete-a.auto.heads,
    ),
  ),
)

pub vertex_transform_until_complete-d-requires : goal.vertex_transform_until_complete-d-requires
vertex_transform_until_complete-d-requires c = (
  with-least c.requires.0.least-is c.split_until_complete-c.ensures.ready,
  record {
    small = omega (
      arith,
      c.vertex_transform_until_complete-a.ensures.most,
      c.vertex_transform_until_complete-b.ensures.most,
      c.split_until_complete-c.ensures.most,
      c.requires.1.0.small,
      c.vertex_transform_until_complete-a.auto.heads,
      c.vertex_transform_until_complete-b.auto.heads
          ∙ c.vertex_transform_until_complete-a.auto.heads,
      c.split_until_complete-c.auto.heads
          ∙ c.vertex_transform_until_complete-b.auto.heads
          ∙ c.vertex_transform_until_complete-a.auto.heads,
    );
  },
)

pub zip_linear_chains-requires : goal.zip_linear_chains-requires
zip_linear_chains-requires c = (
  zip-ready c.vertex_transform_until_complete-d.ensures.ready
      (omega (
        arith,
        c.vertex_transform_until_complete-a.ensures.most,
        c.vertex_transform_until_complete-b.ensures.most,
        c.split_until_complete-c.ensures.most,
        c.vertex_transform_until_complete-d.ensures.most,
        c.requires.1.0.small,
        c.vertex_transform_until_complete-a.auto.heads,
        c.vertex_transform_until_complete-b.auto.heads
            ∙ c.vertex_transform_until_complete-a.auto.heads,
        c.split_until_complete-c.auto.heads
            ∙ c.vertex_transform_until_complete-b.auto.heads
            ∙ c.vertex_transform_until_complete-a.auto.heads,
        c.vertex_transform_until_complete-d.auto.heads
            ∙ c.split_until_complete-c.auto.heads
            ∙ c.vertex_transform_until_complete-b.auto.heads
            ∙ c.vertex_transform_until_complete-a.auto.heads,
      )),
  omega (
    arith,
    c.requires.1.1.starts-room,
    c.vertex_transform_until_complete-d.auto.heads
        ∙ c.split_until_complete-c.auto.heads
        ∙ c.vertex_transform_until_complete-b.auto.heads
        ∙ c.vertex_transform_until_complete-a.auto.heads,
  ),
)

pub returns : goal.returns
returns c =
    once
    c.vertex_transform_until_complete-a.ensures
    c.vertex_transform_until_complete-b.ensures
    c.split_until_complete-c.ensures
    c.vertex_transform_until_complete-d.ensures
    c.zip_linear_chains.ensures
    c.vertex_transform_until_complete-b.auto.heads
    (c.split_until_complete-c.auto.heads
    ∙ c.vertex_transform_until_complete-b.auto.heads)
    (c.vertex_transform_until_complete-d.auto.heads
    ∙ c.split_until_complete-c.auto.heads
    ∙ c.vertex_transform_until_complete-b.auto.heads)
    (c.zip_linear_chains.auto.heads
    ∙ c.vertex_transform_until_complete-d.auto.heads
    ∙ c.split_until_complete-c.auto.heads
    ∙ c.vertex_transform_until_complete-b.auto.heads)
