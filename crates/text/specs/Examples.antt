-- Inputs of the program and what it writes of them. Assumes nothing.
use Rattle.std.specs.Prelude.{ℕ, Bool, true, false, List, [], ◌∷◌, ◌++◌}
use Prim.Native.String.{String}
use Rattle.defs.specs.SeqGraph.{Edge}
use Rattle.defs.specs.Forms.{Form, sgr1, sgr2}
use Rattle.defs.specs.Record.{sequence_graph, encode}
use Rattle.text.specs.Printed.{ascii}

abbrev edge : ℕ → ℕ → ℕ → Bool → Edge
edge u v s r = record { from = u; to = v; support = s; is_ref = r; capped = false }

abbrev capped_edge : ℕ → ℕ → ℕ → Bool → Edge
capped_edge u v s r = record { from = u; to = v; support = s; is_ref = r; capped = true }

abbrev record_of : Form → ℕ → List (List ℕ) → List Edge → List ℕ
record_of f k vs es = encode f sequence_graph 0 record { k = k; verts = vs; edges = es }

abbrev graph : ℕ → List (List ℕ) → List Edge → List ℕ
graph = record_of sgr1

abbrev pub inputs : List (List ℕ)
inputs =
    -- document 01's case 1
    graph 10 (ascii "AA" ∷ ascii "CTG" ∷ ascii "CAG" ∷ ascii "TT" ∷ []) (edge 0 1 5 true ∷ edge 1 3 5 true ∷ edge 0 2 2 false ∷ edge 2 3 2 false ∷ []) ∷
    -- bytes beside the letters, an empty sequence, more vertices than edges
    graph 128 ((0 ∷ 64 ∷ 65 ∷ 90 ∷ 91 ∷ 96 ∷ 97 ∷ 122 ∷ 123 ∷ 255 ∷ []) ∷ [] ∷ []) [] ∷
    -- more edges than vertices, two of them capped
    graph 2 (ascii "ACA" ∷ ascii "CGT" ∷ ascii "GAC" ∷ ascii "TTG" ∷ [])
    (capped_edge 0 1 4294967295 true ∷ edge 0 2 0 false ∷ capped_edge 0 3 10 false ∷ edge 1 2 100 true ∷ edge 1 3 9 false ∷ edge 2 3 99 true ∷ []) ∷
    -- a graph in SGR2
    record_of sgr2 25 (ascii "A" ∷ ascii "C" ∷ ascii "G" ∷ []) (edge 0 1 70000 true ∷ edge 1 2 3 false ∷ []) ∷
    -- a cycle; no record
    graph 10 (ascii "A" ∷ ascii "C" ∷ []) (edge 0 1 1 true ∷ edge 1 0 1 false ∷ []) ∷
    ascii "SGR1" ∷
    ascii "SGR2" ∷
    []

-- each line with its end
abbrev lines : List String → List ℕ
lines [] = []
lines (l ∷ ls) = ascii l ++ ascii "\n" ++ lines ls

abbrev pub texts : List (List ℕ)
texts =
    lines (
    "k 10 vertices 4 edges 4 bytes 8 surplus 0" ∷
    "rewrites 3 rounds 2 end quiet" ∷
    "v 0 AAC" ∷
    "v 1 T" ∷
    "v 2 A" ∷
    "v 3 GTT" ∷
    "e 0 1 5 r" ∷
    "e 0 2 2 -" ∷
    "e 1 3 5 r" ∷
    "e 2 3 2 -" ∷
    []) ∷
    lines (
    "k 128 vertices 2 edges 0 bytes 10 surplus -2" ∷
    "rewrites 0 rounds 1 end quiet" ∷
    "v 0 \\x00\\x40AZ\\x5b\\x60az\\x7b\\xff" ∷
    "v 1 ." ∷
    []) ∷
    lines (
    "k 2 vertices 4 edges 6 bytes 12 surplus 2" ∷
    "rewrites 0 rounds 1 end quiet" ∷
    "v 0 ACA" ∷
    "v 1 CGT" ∷
    "v 2 GAC" ∷
    "v 3 TTG" ∷
    "e 0 1 4294967295 rc" ∷
    "e 0 2 0 -" ∷
    "e 0 3 10 -c" ∷
    "e 1 2 100 r" ∷
    "e 1 3 9 -" ∷
    "e 2 3 99 r" ∷
    []) ∷
    lines (
    "k 25 vertices 1 edges 0 bytes 3 surplus -1" ∷
    "rewrites 2 rounds 2 end quiet" ∷
    "v 0 ACG" ∷
    []) ∷
    lines (
    "refused 7" ∷
    []) ∷
    lines (
    "refused 1" ∷
    []) ∷
    lines (
    "refused 1" ∷
    []) ∷
    []
