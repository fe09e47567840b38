-- The printed graph: what `sgshow` writes, from the bytes of its standard input. A text is a list of bytes.
-- Assumes nothing.
use Rattle.std.specs.Prelude.{ℕ, zero, suc, ◌+◌, ◌/◌, ◌%◌, Bool, true, false, cond, ◌&&◌, ◌||◌, List, [], ◌∷◌, ◌++◌, map, ltb, leb, ℤ, pos, negsuc, ◌-ℤ◌, length}
use Prim.Native.Char.{code}
use Prim.Native.String.{String, len, char_at}
use Rattle.defs.specs.Lists.{concat, tab}
use Rattle.defs.specs.SeqGraph.{Edge, node_count, vertex_sequence}
use Rattle.defs.specs.Simplify.{sequence_bytes, End, quiet, repeated, full, Simplified, simplify_graph_full, min_tail_suffix_len}
use Rattle.defs.specs.Record.{decode}
use Rattle.defs.specs.Refusals.{Cause, sequence_only, record_causes}
use Rattle.defs.specs.Calls.{Response, refused, accepted, output_cause, respond, simplified_record}

-- the bytes of an ASCII text
unfoldable pub ascii : String → List ℕ
ascii s = tab (len s) (λ (i : ℕ). code (char_at s i))

-- a digit below 16: 0 to 9, then a to f
unfoldable pub digit : ℕ → ℕ
digit d = cond (ltb d 10) (48 + d) (87 + d)

-- a number in decimal, without leading zeros; n / 10 is below n, so that n + 1 is fuel enough
unfoldable pub decimal_by : ℕ → ℕ → List ℕ
decimal_by zero n = []
decimal_by (suc fuel) n = elim (ltb n 10) [ true ↦ digit n ∷ [] | false ↦ decimal_by fuel (n / 10) ++ (digit (n % 10) ∷ []) ]

unfoldable pub decimal : ℕ → List ℕ
decimal n = decimal_by (suc n) n

-- a number below zero has its sign before it
unfoldable pub signed : ℤ → List ℕ
signed (pos n) = decimal n
signed (negsuc n) = ascii "-" ++ decimal (suc n)

-- a name and a number
unfoldable pub field : String → ℕ → List ℕ
field name n = ascii name ++ decimal n

-- A to Z, a to z
unfoldable pub is_letter : ℕ → Bool
is_letter b = (leb 65 b && leb b 90) || (leb 97 b && leb b 122)

-- as in `prefix_bytes`: a letter as it is, any other byte as \x and two digits
unfoldable pub printed_byte : ℕ → List ℕ
printed_byte b = cond (is_letter b) (b ∷ []) (ascii "\\x" ++ (digit (b / 16) ∷ digit (b % 16) ∷ []))

-- an empty sequence as a dot
unfoldable pub printed_sequence : List ℕ → List ℕ
printed_sequence [] = ascii "."
printed_sequence (b ∷ bs) = concat (map printed_byte (b ∷ bs))

unfoldable pub surplus : ℕ → ℕ → ℤ
surplus edges vertices = pos edges -ℤ pos vertices

unfoldable pub first_line : ℕ → ℕ → ℕ → ℕ → List ℕ
first_line k vertices edges bytes =
    field "k " k ++ field " vertices " vertices ++ field " edges " edges ++ field " bytes " bytes
    ++ ascii " surplus " ++ signed (surplus edges vertices) ++ ascii "\n"

unfoldable pub end_name : End → String
end_name quiet = "quiet"
end_name repeated = "repeated"
end_name full = "full"

unfoldable pub second_line : ℕ → ℕ → End → List ℕ
second_line rewrites rounds end = field "rewrites " rewrites ++ field " rounds " rounds ++ ascii " end " ++ ascii (end_name end) ++ ascii "\n"

unfoldable pub vertex_line : ℕ → List ℕ → List ℕ
vertex_line v s = field "v " v ++ ascii " " ++ printed_sequence s ++ ascii "\n"

-- r for a reference edge, else -; right behind it c for a capped one
unfoldable pub edge_line : Edge → List ℕ
edge_line e =
    field "e " e.from ++ field " " e.to ++ field " " e.support
    ++ cond e.is_ref (ascii " r") (ascii " -") ++ cond e.capped (ascii "c\n") (ascii "\n")

unfoldable pub printed_graph : Simplified → List ℕ
printed_graph s =
    let g = s.graph in
    first_line g.k (node_count g) (length g.edges) (sequence_bytes g.verts) ++ second_line s.rewrites s.rounds s.end
    ++ concat (tab (node_count g) (λ (v : ℕ). vertex_line v (vertex_sequence g v))) ++ concat (map edge_line g.edges)

unfoldable pub printed_refusal : ℕ → List ℕ
printed_refusal number = field "refused " number ++ ascii "\n"

unfoldable pub printed_answer : Response → Simplified → List ℕ
printed_answer (refused number) s = printed_refusal number
printed_answer (accepted bytes) s = printed_graph s

-- input over 65,536 bytes counts as 1
unfoldable pub input_causes : List ℕ → List Cause
input_causes bs = record { number = 1; present = ltb 65536 (length bs) } ∷ record_causes sequence_only bs

-- What the program writes of its standard input. An answer record over 65,536 bytes counts as 11.
unfoldable pub shown : List ℕ → List ℕ
shown bs =
    printed_answer (respond (input_causes bs ++ (output_cause 65536 (simplified_record bs) ∷ [])) (simplified_record bs)) (simplify_graph_full min_tail_suffix_len (decode bs))
