-- A graph of one vertex is ready.
use mathlib.Core.Path.{refl}
use native.Mathlib.Omega.{arith}
use Rattle.until.proofs.OneVertex.{one-vertex-held}
use Rattle.until.proofs.tests.zips_leave_a_vertex_as_it_is.Goals as goal

pub transform_until_complete-done-requires : goal.transform_until_complete-done-requires
transform_until_complete-done-requires g c =
    let vertices = c.build_index.auto.heads in
    let edges = c.build_index.auto.nexts in (
      record {
        least-is = omega arith;
        room = record {
          es-room = omega (arith, edges);
          vs-room = omega (arith, vertices);
          p-room = omega (arith, vertices);
          nodes-room = omega (arith, edges);
          map-room = omega (arith, vertices);
          vertices-edges = omega (arith, vertices, edges);
          small = omega (arith, edges);
        };
        holds = one-vertex-held refl refl refl refl refl (omega (arith, vertices)) (omega (arith, vertices, edges));
        indexed = c.build_index.ensures;
      },
      record { small = omega (arith, vertices) },
    )
