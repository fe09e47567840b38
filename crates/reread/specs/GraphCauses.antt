-- The causes 1 to 7 of the record that is written of a graph, told from its form, kind, status and graph. Assumes nothing.
use Rattle.std.specs.Prelude.{Bool, false, not, ◌&&◌, ◌||◌, List, [], ◌∷◌, ◌++◌, ℕ, eqb, ltb, leb, length}
use Rattle.defs.specs.Lists.{any_of}
use Rattle.defs.specs.Forms.{Form, limits}
use Rattle.defs.specs.SeqGraph.{Graph, node_count}
use Rattle.defs.specs.Simplify.{sequence_bytes}
use Rattle.defs.specs.Record.{RecordKind, record_kind_number}
use Rattle.defs.specs.Refusals.{Cause, Takes, takes_kind, doubled_edge, equal_kmers, has_cycle}

-- 2: a kind that the call does not take, or a status that there is not, or not in kind 0
unfoldable pub wrong_kind : Takes → RecordKind → ℕ → Bool
wrong_kind t kind status =
    not (takes_kind t (record_kind_number kind)) || (ltb 2 status || (eqb (record_kind_number kind) 0 && not (eqb status 0)))

-- 3: k or a count past a limit of input; the one test that the form enters
unfoldable pub graph_past_limit : Form → RecordKind → Graph → Bool
graph_past_limit f kind g =
    ltb g.k 2 || (ltb 128 g.k || (ltb (limits f).vertices (node_count g) || (ltb (limits f).edges (length g.edges)
    || (eqb (record_kind_number kind) 1 && ltb (limits f).bytes (sequence_bytes g.verts)))))

-- 4: in kind 0 a vertex of other than k bytes
unfoldable pub other_kmers : RecordKind → Graph → Bool
other_kmers kind g = eqb (record_kind_number kind) 0 && any_of (λ s. not (eqb (length s) g.k)) g.verts

-- 5: an edge that ends at no vertex
unfoldable pub ends_past : Graph → Bool
ends_past g = any_of (λ e. leb (node_count g) e.from || leb (node_count g) e.to) g.edges

-- 6: two edges with the same ends, or in kind 0 two equal k-mers
unfoldable pub graph_doubled : RecordKind → Graph → Bool
graph_doubled kind g = doubled_edge g.edges || (eqb (record_kind_number kind) 0 && equal_kmers g.verts)

-- 1 to 5: what is written has the length that it states
unfoldable pub graph_layout_causes : Form → Takes → RecordKind → ℕ → Graph → List Cause
graph_layout_causes f t kind status g =
    record { number = 1; present = false }
    ∷ record { number = 2; present = wrong_kind t kind status }
    ∷ record { number = 3; present = graph_past_limit f kind g }
    ∷ record { number = 4; present = other_kmers kind g }
    ∷ record { number = 5; present = ends_past g }
    ∷ []

-- 1 to 7
unfoldable pub graph_causes : Form → Takes → RecordKind → ℕ → Graph → List Cause
graph_causes f t kind status g =
    graph_layout_causes f t kind status g
    ++ (record { number = 6; present = graph_doubled kind g } ∷ record { number = 7; present = has_cycle g } ∷ [])
