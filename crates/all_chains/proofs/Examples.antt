-- The one pass on a small graph.
-- Assumes nothing.
use Prim.Native.Nat.{ℕ}
use mathlib.Core.Path.{◌≡◌, refl}
use mathlib.Core.Bool.{false}
use mathlib.Core.List.{[], ◌∷◌}
use Rattle.defs.specs.Lists.{keep_if, any_of, head_or, concat, keep_at, bit, rank, elem_of, up_from}
use Rattle.defs.specs.SeqGraph.{Edge, node_count, vertex_sequence, edges_from, edges_into, outgoing_nodes, incoming_nodes, out_degree, in_degree}
use Rattle.defs.specs.SeqGraph.{is_reference_node, remap_edge, compact_vertices, keeps, remove_vertices_by_id}
use Rattle.defs.specs.Zip.{Work, is_linear_chain_start, chain_goes_on, trace_linear_chain, last_of, linear_chain}
use Rattle.all_chains.specs.AllChains.{chains_from, chains_of, gone_of, from_after, move_from_all, chain_sequence, write_chains, absorb_chains}
use Rattle.all_chains.specs.AllChains.{merge_linear_chains, zip_all}

edge : ℕ → ℕ → Edge
edge u v = record { from = u; to = v; support = 1; is_ref = false; capped = false }

run : Work → Work
unfolding keep_if any_of head_or concat keep_at bit rank elem_of up_from node_count vertex_sequence edges_from edges_into outgoing_nodes incoming_nodes
    out_degree in_degree is_reference_node remap_edge compact_vertices keeps remove_vertices_by_id is_linear_chain_start chain_goes_on trace_linear_chain
    last_of linear_chain chains_from chains_of gone_of from_after move_from_all chain_sequence write_chains absorb_chains merge_linear_chains zip_all
run w = zip_all w

-- the chains are 3, 0, 4 and 5, 1: both are joined, and the edges out of 4 keep their places
two-chains : run record {
  graph = record {
    k = 10;
    verts = (65 ∷ []) ∷ (66 ∷ []) ∷ (67 ∷ []) ∷ (68 ∷ []) ∷ (69 ∷ []) ∷ (70 ∷ []) ∷ [];
    edges = edge 4 2
        ∷ edge 3 0 ∷ edge 4 5 ∷ edge 0 4 ∷ edge 5 1 ∷ [];
  };
  rewrites = 7;
} ≡ record {
  graph = record { k = 10; verts = (67 ∷ []) ∷ (68 ∷ 65 ∷ 69 ∷ []) ∷ (70 ∷ 66 ∷ []) ∷ []; edges = edge 1 0 ∷ edge 1 2 ∷ [] };
  rewrites = 9;
}
unfolding run edge
two-chains = refl
