-- The graph records SGR1 and SGR2: their fields, their layout, writing and reading. A record is a list of bytes.
-- Assumes nothing.
use Rattle.std.specs.Prelude.{ℕ, ◌+◌, ◌*◌, ◌/◌, ◌%◌, Bool, List, [], ◌∷◌, ◌++◌, map, eqb, ltb, length, get_or, take, drop}
use Rattle.defs.specs.Lists.{bit, concat, tab, sum}
use Rattle.defs.specs.Forms.{Form, sgr1, sgr2, mark, form_of, word_size, places, lengths_at, edge_size}
use Rattle.defs.specs.SeqGraph.{Edge, Graph, node_count}
use Rattle.defs.specs.Simplify.{sequence_bytes}

-- Numbers are little-endian.
unfoldable pub le16 : ℕ → List ℕ
le16 n = n % 256 ∷ n / 256 % 256 ∷ []

unfoldable pub le32 : ℕ → List ℕ
le32 n = n % 256 ∷ n / 256 % 256 ∷ n / 65536 % 256 ∷ n / 16777216 % 256 ∷ []

unfoldable pub u16_at : List ℕ → ℕ → ℕ
u16_at bs i = get_or bs i 0 + 256 * get_or bs (i + 1) 0

unfoldable pub u32_at : List ℕ → ℕ → ℕ
u32_at bs i = get_or bs i 0 + 256 * get_or bs (i + 1) 0 + 65536 * get_or bs (i + 2) 0 + 16777216 * get_or bs (i + 3) 0

-- a word: two bytes in SGR1, four in SGR2
unfoldable pub word_bytes : Form → ℕ → List ℕ
word_bytes sgr1 n = le16 n
word_bytes sgr2 n = le32 n

unfoldable pub word_at : Form → List ℕ → ℕ → ℕ
word_at sgr1 bs i = u16_at bs i
word_at sgr2 bs i = u32_at bs i

-- the two kinds and their numbers
pub data RecordKind : Type 0 where
  kmer_graph sequence_graph : RecordKind

unfoldable pub record_kind_number : RecordKind → ℕ
record_kind_number kmer_graph = 0
record_kind_number sequence_graph = 1

-- The header's fields.
abbrev pub kind_of : List ℕ → ℕ
kind_of bs = get_or bs 4 0

abbrev pub status_of : List ℕ → ℕ
status_of bs = get_or bs 5 0

abbrev pub k_of : List ℕ → ℕ
k_of bs = u16_at bs 6

unfoldable pub vertices_of : List ℕ → ℕ
vertices_of bs = word_at (form_of bs) bs (places (form_of bs)).vertices

unfoldable pub edges_of : List ℕ → ℕ
edges_of bs = word_at (form_of bs) bs (places (form_of bs)).edges

unfoldable pub bytes_of : List ℕ → ℕ
bytes_of bs = u32_at bs (places (form_of bs)).bytes

unfoldable pub lengths_offset_of : List ℕ → ℕ
lengths_offset_of bs = u32_at bs (places (form_of bs)).lengths_offset

unfoldable pub edges_offset_of : List ℕ → ℕ
edges_offset_of bs = u32_at bs (places (form_of bs)).edges_offset

unfoldable pub bytes_offset_of : List ℕ → ℕ
bytes_offset_of bs = u32_at bs (places (form_of bs)).bytes_offset

unfoldable pub whole_of : List ℕ → ℕ
whole_of bs = u32_at bs (places (form_of bs)).whole

-- The layout, with v vertices, e edges and b sequence bytes.
unfoldable pub edges_at : Form → ℕ → ℕ
edges_at f v = lengths_at f + word_size f * v

unfoldable pub bytes_at : Form → ℕ → ℕ → ℕ
bytes_at f v e = edges_at f v + edge_size f * e

unfoldable pub whole_length : Form → ℕ → ℕ → ℕ → ℕ
whole_length f v e b = bytes_at f v e + b

-- The flag of an edge: 1 for a reference edge, and 2 more for a capped one.
unfoldable pub flag_of : Edge → ℕ
flag_of e = bit e.is_ref + 2 * bit e.capped

-- what a flag says
abbrev pub flag_is_ref : ℕ → Bool
flag_is_ref f = eqb (f % 2) 1

abbrev pub flag_is_capped : ℕ → Bool
flag_is_capped f = ltb 1 f

-- Writing.
unfoldable pub encode_edge : Form → Edge → List ℕ
encode_edge f e = word_bytes f e.from ++ word_bytes f e.to ++ le32 e.support ++ (flag_of e ∷ [])

unfoldable pub encode_header : Form → ℕ → ℕ → ℕ → ℕ → ℕ → ℕ → List ℕ
encode_header f kind status k v e b =
    mark f ++ (kind ∷ status ∷ []) ++ le16 k ++ word_bytes f v ++ word_bytes f e ++ le32 b
    ++ le32 (lengths_at f) ++ le32 (edges_at f v) ++ le32 (bytes_at f v e) ++ le32 (whole_length f v e b)

unfoldable pub encode : Form → RecordKind → ℕ → Graph → List ℕ
encode f kind status g =
    encode_header f (record_kind_number kind) status g.k (node_count g) (length g.edges) (sequence_bytes g.verts)
    ++ concat (map (λ v. word_bytes f (length v)) g.verts)
    ++ concat (map (encode_edge f) g.edges)
    ++ concat g.verts

-- Reading. The form is the record's own.
unfoldable pub length_at : List ℕ → ℕ → ℕ
length_at bs i = word_at (form_of bs) bs (lengths_at (form_of bs) + word_size (form_of bs) * i)

-- where the bytes of vertex i start: behind those of the vertices before it
unfoldable pub sequence_start : List ℕ → ℕ → ℕ
sequence_start bs i = bytes_at (form_of bs) (vertices_of bs) (edges_of bs) + sum (tab i (length_at bs))

unfoldable pub sequence_at : List ℕ → ℕ → List ℕ
sequence_at bs i = take (length_at bs i) (drop (sequence_start bs i) bs)

unfoldable pub edge_start : List ℕ → ℕ → ℕ
edge_start bs i = edges_at (form_of bs) (vertices_of bs) + edge_size (form_of bs) * i

unfoldable pub flag_at : List ℕ → ℕ → ℕ
flag_at bs i = get_or bs (edge_start bs i + 2 * word_size (form_of bs) + 4) 0

unfoldable pub edge_at : List ℕ → ℕ → Edge
edge_at bs i =
    let f = form_of bs in
    let o = edge_start bs i in
    record {
      from = word_at f bs o;
      to = word_at f bs (o + word_size f);
      support = u32_at bs (o + 2 * word_size f);
      is_ref = flag_is_ref (flag_at bs i);
      capped = flag_is_capped (flag_at bs i);
    }

unfoldable pub decode : List ℕ → Graph
decode bs = record { k = k_of bs; verts = tab (vertices_of bs) (sequence_at bs); edges = tab (edges_of bs) (edge_at bs) }
