-- Tallied calls one after another on one table. A call is told by its inputs; of the lent output its length alone counts.
-- Assumes nothing.
use Rattle.std.specs.Prelude.{ℕ, List, [], ◌∷◌, eqb}
use Rattle.defs.specs.Lists.{keep_if}
use Rattle.defs.specs.Tallies.{Tally, CountedCall, after_call}
use Rattle.defs.specs.Calls.{from_assembly_graph_counted, simplify_graph_counted, cleanup_seq_graph_counted}
use Rattle.defs.specs.Calls.{clean_non_ref_paths_counted, reference_path_bytes_counted, path_bases_bytes_counted}

-- record, room and caller; of path_bases_bytes record, start, edges, room and caller
pub data TalliedCall : Type 0 where
  from_assembly_graph_call : List ℕ → ℕ → ℕ → TalliedCall
  simplify_graph_call : List ℕ → ℕ → ℕ → TalliedCall
  cleanup_seq_graph_call : List ℕ → ℕ → ℕ → TalliedCall
  clean_non_ref_paths_call : List ℕ → ℕ → ℕ → TalliedCall
  reference_path_bytes_call : List ℕ → ℕ → ℕ → TalliedCall
  path_bases_bytes_call : List ℕ → ℕ → List ℕ → ℕ → ℕ → TalliedCall

unfoldable pub counted_by : TalliedCall → CountedCall
counted_by (from_assembly_graph_call bs room caller) = from_assembly_graph_counted bs room caller
counted_by (simplify_graph_call bs room caller) = simplify_graph_counted bs room caller
counted_by (cleanup_seq_graph_call bs room caller) = cleanup_seq_graph_counted bs room caller
counted_by (clean_non_ref_paths_call bs room caller) = clean_non_ref_paths_counted bs room caller
counted_by (reference_path_bytes_call bs room caller) = reference_path_bytes_counted bs room caller
counted_by (path_bases_bytes_call bs start edges room caller) = path_bases_bytes_counted bs start edges room caller

unfoldable pub after_calls : List TalliedCall → List Tally → List Tally
after_calls [] table = table
after_calls (call ∷ calls) table = after_calls calls (after_call (counted_by call) table)

-- the calls of one caller alone
unfoldable pub own_calls : ℕ → List TalliedCall → List TalliedCall
own_calls caller calls = keep_if (λ call. eqb (counted_by call).caller caller) calls
