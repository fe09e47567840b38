-- The definition computes the texts of the examples. Assumes nothing.
use mathlib.Core.Path.{◌≡◌, refl}
use mathlib.Core.List.{map}
use Rattle.defs.specs.Lists as L
use Rattle.defs.specs.SeqGraph as G
use Rattle.defs.specs.Zip as Z
use Rattle.defs.specs.Rewrites as W
use Rattle.defs.specs.Simplify as S
use Rattle.defs.specs.Cleanup as C
use Rattle.defs.specs.Forms as O
use Rattle.defs.specs.Record as R
use Rattle.defs.specs.Refusals as F
use Rattle.defs.specs.Calls as A
use Rattle.text.specs.Printed as P
use Rattle.text.specs.Printed.{shown}
use Rattle.text.specs.Examples.{inputs, texts}

-- every definition that the program's text is computed with is opened
pub shown-examples : map shown inputs ≡ texts
unfolding P.ascii P.digit P.decimal_by P.decimal P.signed P.field P.is_letter P.printed_byte P.printed_sequence P.surplus P.first_line P.end_name
    P.second_line P.vertex_line P.edge_line P.printed_graph P.printed_refusal P.printed_answer P.input_causes P.shown A.output_cause A.respond_to A.respond F.refusal_of
    F.other_length F.takes_kind F.wrong_mark F.past_limit F.layout_disagrees F.bad_edge F.any_bad_edge F.doubled_edge F.equal_kmers F.doubled
    F.has_cycle F.layout_causes F.record_causes F.record_refusal O.mark O.form_of O.word_size O.places O.lengths_at O.edge_size O.limits R.le16 R.le32
    R.u16_at R.u32_at R.word_bytes R.word_at R.vertices_of R.edges_of R.bytes_of R.lengths_offset_of R.edges_offset_of R.bytes_offset_of R.whole_of R.record_kind_number
    R.edges_at R.bytes_at R.whole_length
    R.flag_of R.encode_edge R.encode_header R.encode R.length_at R.sequence_start R.sequence_at R.edge_start R.flag_at R.edge_at R.decode C.forward C.grow
    C.reached L.tab_from L.sum L.keep_if L.any_of L.all_of L.head_or L.concat L.keep_at L.given L.bit L.rank L.elem_of L.up_from L.first_of
    L.same_list L.common_prefix₂ L.common_prefix_by L.common_prefix L.common_suffix G.node_count G.vertex_sequence G.edges_from G.edges_into
    G.outgoing_nodes G.incoming_nodes G.out_degree G.in_degree G.is_reference_node G.is_ref_source G.is_ref_sink G.saturating_add G.has_ends
    G.add_or_update_edge G.add_or_update_edges G.remap_edge G.compact_vertices G.keeps G.remove_vertices_by_id G.remap_numbers G.with_additions
    G.apply_change Z.is_linear_chain_start Z.chain_goes_on Z.trace_linear_chain Z.last_of Z.move_from Z.merge_linear_chain Z.linear_chain
    Z.zip_starts Z.zip_linear_chains W.non_empty G.edge_data G.new_edge W.support_one W.process_edge W.mid_plan W.has_remaining G.joined_data W.prefix_to_suffix_from
    W.prefix_to_suffix W.new_edge_if W.edges_to_middles W.edges_from_middles W.is_ref_if W.only_if W.or_else W.is_none W.split_and_update_with
    W.split_and_update W.shared_prefix W.shared_suffix W.is_diamond W.bottom_of W.merges_diamond W.diamond_change W.try_merge_diamond W.is_tails
    W.merges_tails W.tails_change W.try_merge_tails W.redirected_to W.suffix_and_prefix W.suffix_and_prefix_edges W.without_suffix W.split_vertices
    W.split_edges W.would_eliminate_ref_source W.is_split W.split_suffix W.splits_suffix W.split_change W.try_split_common_suffix W.is_merge
    W.merges_suffices W.redirected_from W.merge_change W.try_merge_common_suffices S.empty_vertices S.sequence_bytes S.fuel_for S.first_at
    S.transform_until_complete S.first_split S.split_until_complete S.simplify_graph_once S.graph_topology_signature S.simplified S.rounds_from
    S.simplify_graph_full
shown-examples = refl
