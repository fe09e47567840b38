-- Causes of a refusal, and those that lie in the record: 1 to 7, and 15. A call has a list of causes; a number is given when its cause is
-- present and no earlier one of the list is.
-- Assumes nothing.
use Rattle.std.specs.Prelude.{ℕ, ◌+◌, ◌≡◌, Bool, true, false, ◌&&◌, ◌||◌, not, eqb, ltb, leb, length, take}
use mathlib.Core.List.{List, [], ◌∷◌, ◌++◌, Memᴰ}
use Rattle.defs.specs.Lists.{any_of, elem_of, same_list, up_from, tab, sum}
use Rattle.defs.specs.SeqGraph.{Edge, Graph, node_count, outgoing_nodes, has_ends}
use Rattle.defs.specs.Assembly.{overlaps}
use Rattle.defs.specs.Cleanup.{forward, reached}
use Rattle.defs.specs.Forms.{mark, form_of, lengths_at, limits}
use Rattle.defs.specs.Record.{kind_of, status_of, k_of, vertices_of, edges_of, bytes_of, lengths_offset_of, edges_offset_of, bytes_offset_of, whole_of}
use Rattle.defs.specs.Record.{edges_at, bytes_at, whole_length, length_at, edge_at, flag_at, decode}

pub record Cause : Type 0 where
  pub number : ℕ
  pub present : Bool

-- the first cause that is present gives the number; 0 where none is
unfoldable pub refusal_of : List Cause → ℕ
refusal_of [] = 0
refusal_of (c ∷ cs) = elim c.present [ true ↦ c.number | false ↦ refusal_of cs ]

-- What it says, in two cases: none of the causes is present,
pub record NonePresent (cs : List Cause) : Type 0 where
  pub absent : (c : Cause) → Memᴰ c cs → c.present ≡ false

-- or one is, with the number n, and none before it
pub record FirstPresent (cs : List Cause) (n : ℕ) : Type 0 where
  pub before : List Cause
  pub cause : Cause
  pub behind : List Cause
  pub place : cs ≡ before ++ (cause ∷ behind)
  pub none_before : NonePresent before
  pub present : cause.present ≡ true
  pub number : cause.number ≡ n

-- n is the number that the causes give: 0 where none is present, and only there; else that of the first one present, and no other
pub record IsNumberOf (cs : List Cause) (n : ℕ) : Type 0 where
  pub none : n ≡ 0 → NonePresent cs
  pub of_none : NonePresent cs → n ≡ 0
  pub first : (n ≡ 0 → ⊥) → FirstPresent cs n
  pub of-first : (m : ℕ) → FirstPresent cs m → n ≡ m

-- 1: shorter than its header, which has 32 bytes, of a record that begins SGR2 36; or not the length it states
unfoldable pub other_length : List ℕ → Bool
other_length bs = ltb (length bs) (lengths_at (form_of bs)) || not (eqb (whole_of bs) (length bs))

-- which kinds a call takes
pub data Takes : Type 0 where
  kmer_only sequence_only both_kinds : Takes

unfoldable pub takes_kind : Takes → ℕ → Bool
takes_kind kmer_only n = eqb n 0
takes_kind sequence_only n = eqb n 1
takes_kind both_kinds n = leb n 1

-- 2: mark, kind for this call, or status (0 not cleaned, 1 just reference, 2 some variation; always 0 in kind 0)
unfoldable pub wrong_mark : Takes → List ℕ → Bool
wrong_mark t bs =
    not (same_list (take 4 bs) (mark (form_of bs))) || (not (takes_kind t (kind_of bs))
    || (ltb 2 (status_of bs) || (eqb (kind_of bs) 0 && not (eqb (status_of bs) 0))))

-- 3: a count or k past a limit of the record's form
unfoldable pub past_limit : List ℕ → Bool
past_limit bs =
    let most = limits (form_of bs) in
    ltb (k_of bs) 2 || (ltb 128 (k_of bs) || (ltb most.vertices (vertices_of bs) || (ltb most.edges (edges_of bs)
    || (eqb (kind_of bs) 1 && ltb most.bytes (bytes_of bs)))))

-- 4: offsets, whole length, lengths or byte count disagree
unfoldable pub layout_disagrees : List ℕ → Bool
layout_disagrees bs =
    let f = form_of bs in
    let v = vertices_of bs in
    let e = edges_of bs in
    not (eqb (lengths_offset_of bs) (lengths_at f)) || (not (eqb (edges_offset_of bs) (edges_at f v)) || (not (eqb (bytes_offset_of bs) (bytes_at f v e))
    || (not (eqb (length bs) (whole_length f v e (bytes_of bs))) || (not (eqb (sum (tab v (length_at bs))) (bytes_of bs))
    || (eqb (kind_of bs) 0 && any_of (λ i. not (eqb (length_at bs i) (k_of bs))) (up_from 0 v))))))

-- 5: an edge end not below V, or a flag above 3
unfoldable pub bad_edge : List ℕ → ℕ → Bool
bad_edge bs i = leb (vertices_of bs) (edge_at bs i).from || (leb (vertices_of bs) (edge_at bs i).to || ltb 3 (flag_at bs i))

unfoldable pub any_bad_edge : List ℕ → Bool
any_bad_edge bs = any_of (bad_edge bs) (up_from 0 (edges_of bs))

-- 6: two edges with the same ends, or in kind 0 two equal k-mers
unfoldable pub doubled_edge : List Edge → Bool
doubled_edge [] = false
doubled_edge (e ∷ es) = any_of (has_ends e.from e.to) es || doubled_edge es

unfoldable pub equal_kmers : List (List ℕ) → Bool
equal_kmers [] = false
equal_kmers (s ∷ ss) = any_of (same_list s) ss || equal_kmers ss

unfoldable pub doubled : List ℕ → Bool
doubled bs = doubled_edge (decode bs).edges || (eqb (kind_of bs) 0 && equal_kmers (decode bs).verts)

-- 7: a cycle, a self edge included: a vertex that one of its followers reaches
unfoldable pub has_cycle : Graph → Bool
has_cycle g = any_of (λ v. any_of (λ w. elem_of v (reached forward g w)) (outgoing_nodes g v)) (up_from 0 (node_count g))

-- 15: an edge between k-mers that do not follow one another; conversion alone asks this
unfoldable pub edge_without_overlap : Graph → Bool
edge_without_overlap g = any_of (λ e. not (overlaps g e)) g.edges

-- The causes, in the order in which they are asked. 1 to 5 lie in the layout of the record,
unfoldable pub layout_causes : Takes → List ℕ → List Cause
layout_causes t bs =
    record { number = 1; present = other_length bs }
    ∷ record { number = 2; present = wrong_mark t bs }
    ∷ record { number = 3; present = past_limit bs }
    ∷ record { number = 4; present = layout_disagrees bs }
    ∷ record { number = 5; present = any_bad_edge bs }
    ∷ []

-- 6, 15 and 7 in its graph.
abbrev pub doubled_cause : List ℕ → Cause
doubled_cause bs = record { number = 6; present = doubled bs }

abbrev pub overlap_cause : List ℕ → Cause
overlap_cause bs = record { number = 15; present = edge_without_overlap (decode bs) }

abbrev pub cycle_cause : List ℕ → Cause
cycle_cause bs = record { number = 7; present = has_cycle (decode bs) }

-- 1 to 7
unfoldable pub record_causes : Takes → List ℕ → List Cause
record_causes t bs = layout_causes t bs ++ (doubled_cause bs ∷ cycle_cause bs ∷ [])

unfoldable pub record_refusal : Takes → List ℕ → ℕ
record_refusal t bs = refusal_of (record_causes t bs)
