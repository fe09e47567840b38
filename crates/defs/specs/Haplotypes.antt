-- The haplotypes of a graph: its end-to-end strings, each once, in byte order; and the bytes that list them.
-- Assumes nothing.
use Rattle.std.specs.Prelude.{ℕ, zero, suc, ◌+◌, ◌*◌, true, false, ◌≡◌, eqb, length}
use mathlib.Core.List.{List, [], ◌∷◌, ◌++◌, map, Memᴰ}
use Rattle.defs.specs.Lists.{keep_if, concat, up_from}
use Rattle.defs.specs.SeqGraph.{Graph, node_count, outgoing_nodes, out_degree, in_degree}
use Rattle.defs.specs.Zip.{last_of}
use Rattle.defs.specs.Strings.{HasEdge, IsPath, spelled}
use Rattle.defs.specs.Record.{le32}
use Rattle.defs.specs.Assembly.{bytes_before}

-- a path from end to end: no edge enters its first vertex and none leaves its last one; a vertex by itself may be both
abbrev pub EndToEnd : Graph → List ℕ → Type 0
EndToEnd g [] = ⊥
EndToEnd g (v ∷ vs) = IsPath g v vs × ((u : ℕ) → HasEdge g u v → ⊥) × ((w : ℕ) → HasEdge g (last_of v vs) w → ⊥)

-- the vertices that no edge enters
unfoldable pub sources : Graph → List ℕ
sources g = keep_if (λ v. eqb (in_degree g v) 0) (up_from 0 (node_count g))

-- the paths of at most n vertices from v to a vertex that no edge leaves, in the order of the edges
unfoldable pub paths_from : ℕ → Graph → ℕ → List (List ℕ)
paths_from zero g v = []
paths_from (suc n) g v = elim (eqb (out_degree g v) 0) [
  | true ↦ (v ∷ []) ∷ []
  | false ↦ map (λ p. v ∷ p) (concat (map (λ w. paths_from n g w) (outgoing_nodes g v)))
]

-- in a graph without cycles no path has more vertices than the graph
unfoldable pub end_to_end_paths : Graph → List (List ℕ)
end_to_end_paths g = concat (map (λ v. paths_from (node_count g) g v) (sources g))

unfoldable pub path_count : Graph → ℕ
path_count g = length (end_to_end_paths g)

-- what each of them spells, in the order of the paths
unfoldable pub path_strings : Graph → List (List ℕ)
path_strings g = map (spelled g) (end_to_end_paths g)

-- s takes its place in a list in byte order; where it is there already nothing is added
unfoldable pub insert_string : List ℕ → List (List ℕ) → List (List ℕ)
insert_string s [] = s ∷ []
insert_string s (t ∷ ts) = elim (bytes_before t s) [
  | true ↦ t ∷ insert_string s ts
  | false ↦ elim (bytes_before s t) [ true ↦ s ∷ t ∷ ts | false ↦ t ∷ ts ]
]

-- the distinct strings of a list, in byte order
unfoldable pub in_byte_order : List (List ℕ) → List (List ℕ)
in_byte_order [] = []
in_byte_order (s ∷ ss) = insert_string s (in_byte_order ss)

unfoldable pub haplotypes : Graph → List (List ℕ)
haplotypes g = in_byte_order (path_strings g)

-- each string comes before all that stand behind it, so none stands twice
abbrev pub Ascending : List (List ℕ) → Type 0
Ascending [] = Unit {0}
Ascending (s ∷ ss) = ((t : List ℕ) → Memᴰ t ss → bytes_before s t ≡ true) × Ascending ss

-- The listing of strings: how many; of each its offset from the listing's first byte, and its length; the strings themselves.
-- offset and length of each, where the first stands at `offset`
unfoldable pub listing_entries : ℕ → List (List ℕ) → List ℕ
listing_entries offset [] = []
listing_entries offset (s ∷ ss) = le32 offset ++ le32 (length s) ++ listing_entries (offset + length s) ss

unfoldable pub listing : List (List ℕ) → List ℕ
listing ss = le32 (length ss) ++ listing_entries (4 + 8 * length ss) ss ++ concat ss
