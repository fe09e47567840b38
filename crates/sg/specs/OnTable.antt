-- The promise of each tallied call under its C name: that of its core, and the table at exit, which has counted this call by this caller.
-- Assumes nothing.
use Rattle.std.specs.Prelude.{List, ℕ, length}
use Rattle.defs.specs.Calls.{reference_path_bytes_response, path_bases_bytes_response}
use Rattle.defs.specs.Sequence.{counted_by, from_assembly_graph_call, simplify_graph_call, cleanup_seq_graph_call, clean_non_ref_paths_call}
use Rattle.defs.specs.Sequence.{reference_path_bytes_call, path_bases_bytes_call}
use Rattle.calls.specs.declared.Answer.{Answer}
use Rattle.calls.specs.declared.SimplifyAnswer.{SimplifyAnswer}
use Rattle.calls.specs.declared.CleanupAnswer.{CleanupAnswer}
use Rattle.from_assembly_graph.specs.Converts.{Converts}
use Rattle.simplify_graph.specs.Simplifies.{Simplifies}
use Rattle.cleanup_seq_graph.specs.Cleans.{Cleans}
use Rattle.clean_non_ref_paths.specs.CleansPaths.{CleansPaths}
use Rattle.string_calls.specs.TellsBytes.{TellsBytes}
use Rattle.tallies.specs.Raises.{Raises}
use Rattle.tallies.specs.declared.Tallies.{Tallies}

abbrev pub ConvertsOn : List ℕ → List ℕ → ℕ → Answer → List ℕ → Tallies → Tallies → Type 0
ConvertsOn bs out caller r out' table table' =
    Converts bs out caller r out' × Raises (counted_by (from_assembly_graph_call bs (length out) caller)) table table'

abbrev pub SimplifiesOn : List ℕ → List ℕ → ℕ → SimplifyAnswer → List ℕ → Tallies → Tallies → Type 0
SimplifiesOn bs out caller r out' table table' =
    Simplifies bs out caller r out' × Raises (counted_by (simplify_graph_call bs (length out) caller)) table table'

abbrev pub CleansOn : List ℕ → List ℕ → ℕ → CleanupAnswer → List ℕ → Tallies → Tallies → Type 0
CleansOn bs out caller r out' table table' =
    Cleans bs out caller r out' × Raises (counted_by (cleanup_seq_graph_call bs (length out) caller)) table table'

abbrev pub CleansPathsOn : List ℕ → List ℕ → ℕ → Answer → List ℕ → Tallies → Tallies → Type 0
CleansPathsOn bs out caller r out' table table' =
    CleansPaths bs out caller r out' × Raises (counted_by (clean_non_ref_paths_call bs (length out) caller)) table table'

abbrev pub TellsReferenceOn : List ℕ → List ℕ → ℕ → Answer → List ℕ → Tallies → Tallies → Type 0
TellsReferenceOn bs out caller r out' table table' =
    TellsBytes bs (reference_path_bytes_response bs (length out) caller) out r out'
    × Raises (counted_by (reference_path_bytes_call bs (length out) caller)) table table'

abbrev pub TellsPathOn : List ℕ → ℕ → List ℕ → List ℕ → ℕ → Answer → List ℕ → Tallies → Tallies → Type 0
TellsPathOn bs start edges out caller r out' table table' =
    TellsBytes bs (path_bases_bytes_response bs start edges (length out) caller) out r out'
    × Raises (counted_by (path_bases_bytes_call bs start edges (length out) caller)) table table'
