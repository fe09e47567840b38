-- What conversion makes of a graph that fits SGR1 fits it too, if its bytes keep the limit. Assumes nothing.
use Prim.Native.Nat.{◌≤◌}
use native.Mathlib.Omega.{arith}
use lib.ListN.{length}
use Rattle.defs.specs.Forms.{sgr1, limits}
use Rattle.defs.specs.SeqGraph.{Graph, node_count}
use Rattle.defs.specs.Simplify.{sequence_bytes}
use Rattle.defs.specs.Assembly.{edges_sorted, additional_sequence, from_assembly_graph}
use Rattle.tabs.proofs.Tabs.{length-tab}
use Rattle.form.proofs.FormLaws.{limits-fit}
use Rattle.convert.proofs.SortLaws.{of-sort, length-sort}
use Rattle.codec.specs.Encodable.{Encodable}
use Rattle.codec.proofs.RoundTrip.{part-most}

pub converted-fits : (g : Graph) → Encodable sgr1 g → sequence_bytes (from_assembly_graph g).verts ≤ (limits sgr1).bytes
    → Encodable sgr1 (from_assembly_graph g)
unfolding from_assembly_graph edges_sorted node_count limits
converted-fits g E few = record {
  k = E.k;
  vertices = omega (arith, length-tab (length g.verts) (additional_sequence g), E.vertices);
  edges = omega (arith, length-sort g g.edges, E.edges);
  bytes = omega (arith, few);
  lengths = λ s m. omega (arith, part-most m, few, (limits-fit sgr1).bytes);
  each = λ e m. E.each e (of-sort g g.edges e m);
}
