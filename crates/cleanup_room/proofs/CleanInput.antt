-- `clean_non_ref_paths` keeps a graph within the limits of input. Assumes nothing.
use mathlib.Core.Path.{refl}
use mathlib.Core.Bool.{Bool, not, ◌&&◌}
use Prim.Native.Nat.{ℕ, ◌≤◌}
use native.Mathlib.Omega.{arith}
use lib.ListN.{length, length-map}
use Rattle.defs.specs.Lists.{keep_if}
use Rattle.defs.specs.Forms.{Form}
use Rattle.defs.specs.SeqGraph.{Edge, Graph, node_count, remap_edge, compact_vertices}
use Rattle.defs.specs.Simplify.{sequence_bytes}
use Rattle.defs.specs.Cleanup.{clean_non_ref_paths}
use Rattle.laws.proofs.ListLaws.{of-keep_if}
use Rattle.laws.proofs.Counts.{length_both}
use Rattle.laws.proofs.Nets.{order-restrict}
use Rattle.laws.proofs.Cleaned.{restrict-good}
use Rattle.laws.proofs.Room.{total-keep_at}
use Rattle.laws.proofs.Measures.{bytes-is}
use Rattle.tabs.proofs.Ranks.{rank_most}
use Rattle.answers.proofs.Supports.{Fields, compact-fields}
use Rattle.reread.specs.Recordable.{SequenceInput}
use Rattle.cleanup_room.proofs.CleanLean.{thinned, thinned-good, clean-keeps}

-- vertices go
module _ (p : ℕ → Bool) (g : Graph) where
  fewer-edges : length (compact_vertices p g).edges ≤ length g.edges
  unfolding compact_vertices
  fewer-edges =
      let both : Edge → Bool = λ e. p e.from && p e.to in
      omega (arith, length-map (keep_if both g.edges) (remap_edge p), length_both both g.edges)

  fewer_bytes : sequence_bytes (compact_vertices p g).verts ≤ sequence_bytes g.verts
  unfolding compact_vertices
  fewer_bytes = omega (arith, bytes-is g.verts, bytes-is (compact_vertices p g).verts, total-keep_at length p 0 g.verts)

pub clean-bytes : (g : Graph) → sequence_bytes (clean_non_ref_paths g).verts ≤ sequence_bytes g.verts
clean-bytes g =
    clean-keeps (λ (h : Graph). sequence_bytes h.verts ≤ sequence_bytes g.verts)
    (λ q h l. l)
    (λ p h l. omega (arith, fewer_bytes p h, l)) g (omega arith)

module _ (f : Form) where
  -- edges go
  thinned-input : (q : Edge → Bool) (g : Graph) → SequenceInput f g → SequenceInput f (thinned q g)
  unfolding node_count
  thinned-input q g I = record {
    good = thinned-good q g I.good;
    k-least = I.k-least;
    k-most = I.k-most;
    vertices = I.vertices;
    edges = omega (arith, length_both q g.edges, I.edges);
    bytes = I.bytes;
    supports = λ e m. I.supports e (of-keep_if q g.edges m).0;
  }

  restrict-input : (p : ℕ → Bool) (g : Graph) → SequenceInput f g → SequenceInput f (compact_vertices p g)
  restrict-input p g I =
      let F : Fields g.k (compact_vertices p g) = compact-fields p g record { k-is = refl; supports = I.supports } in
      record {
        good = restrict-good p g I.good;
        k-least = omega (arith, F.k-is, I.k-least);
        k-most = omega (arith, F.k-is, I.k-most);
        vertices = omega (arith, order-restrict p g, rank_most p (node_count g), I.vertices);
        edges = omega (arith, fewer-edges p g, I.edges);
        bytes = omega (arith, fewer_bytes p g, I.bytes);
        supports = F.supports;
      }

  pub clean-input : (g : Graph) → SequenceInput f g → SequenceInput f (clean_non_ref_paths g)
  clean-input g I = clean-keeps (SequenceInput f) thinned-input restrict-input g I
