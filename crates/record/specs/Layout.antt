-- The check of a record's layout, and what is known of a record that none of the refusals 1 to 5 meets.
-- Assumes nothing.
use Rattle.std.specs.Prelude.{ℕ, Result, Ok, ◌<◌, ◌≤◌, ◌≡◌, Bool, not, ◌&&◌, ◌||◌, List, eqb, ltb, length, take}
use Rattle.defs.specs.Lists.{tab, sum}
use Rattle.defs.specs.Forms.{mark, form_of, lengths_at, limits}
use Rattle.defs.specs.Record.{kind_of, status_of, k_of, vertices_of, edges_of, bytes_of, lengths_offset_of, edges_offset_of, bytes_offset_of, whole_of}
use Rattle.defs.specs.Record.{edges_at, bytes_at, whole_length, length_at, edge_at, flag_at}
use Rattle.kmer.specs.declared.KmerSize.{KmerSize}
use Rattle.refusal.specs.Refusals.{refused_by}
use Rattle.refusal.specs.declared.Refusal.{Refusal}

-- what the check gives, by the number n of the refusal: with 0 the k-mer size k
pub record LayoutOf (n k : ℕ) (r : Result KmerSize Refusal) : Type 0 where
  pub number : refused_by r ≡ n
  pub size : {s : KmerSize} → r ≡ Ok s → s.0 ≡ k

-- the tests of cause 3 that k does not enter
unfoldable pub count_past_limit : List ℕ → Bool
count_past_limit bs =
    let most = limits (form_of bs) in
    ltb most.vertices (vertices_of bs) || (ltb most.edges (edges_of bs) || (eqb (kind_of bs) 1 && ltb most.bytes (bytes_of bs)))

-- the test of cause 4 that each vertex of a k-mer graph has k bytes, at one vertex
abbrev pub other_kmer_length : List ℕ → ℕ → Bool
other_kmer_length bs i = not (eqb (length_at bs i) (k_of bs))

-- the first four tests of cause 4, which no length enters
unfoldable pub offsets_disagree : List ℕ → Bool
offsets_disagree bs =
    not (eqb (lengths_offset_of bs) (lengths_at (form_of bs))) || (not (eqb (edges_offset_of bs) (edges_at (form_of bs) (vertices_of bs)))
    || (not (eqb (bytes_offset_of bs) (bytes_at (form_of bs) (vertices_of bs) (edges_of bs)))
    || not (eqb (length bs) (whole_length (form_of bs) (vertices_of bs) (edges_of bs) (bytes_of bs)))))

-- an edge of the record: its ends below V, its flag at most 3
pub record GoodEdge (bs : List ℕ) (i : ℕ) : Type 0 where
  pub from : (edge_at bs i).from < vertices_of bs
  pub to : (edge_at bs i).to < vertices_of bs
  pub flag : flag_at bs i ≤ 3

-- none of the causes 1 to 5 is there
pub record WellFormed (bs : List ℕ) : Type 0 where
  pub marked : take 4 bs ≡ mark (form_of bs)
  pub kind : kind_of bs ≤ 1
  pub status : status_of bs ≤ 2
  pub kmer-status : kind_of bs ≡ 0 → status_of bs ≡ 0
  pub k-least : 2 ≤ k_of bs
  pub k-most : k_of bs ≤ 128
  pub vertices : vertices_of bs ≤ (limits (form_of bs)).vertices
  pub edges : edges_of bs ≤ (limits (form_of bs)).edges
  pub bytes : kind_of bs ≡ 1 → bytes_of bs ≤ (limits (form_of bs)).bytes
  pub lengths-at : lengths_offset_of bs ≡ lengths_at (form_of bs)
  pub edges-at : edges_offset_of bs ≡ edges_at (form_of bs) (vertices_of bs)
  pub bytes-at : bytes_offset_of bs ≡ bytes_at (form_of bs) (vertices_of bs) (edges_of bs)
  pub stated : whole_of bs ≡ length bs
  pub whole : length bs ≡ whole_length (form_of bs) (vertices_of bs) (edges_of bs) (bytes_of bs)
  pub lengths : sum (tab (vertices_of bs) (length_at bs)) ≡ bytes_of bs
  pub kmers : kind_of bs ≡ 0 → (i : ℕ) → i < vertices_of bs → length_at bs i ≡ k_of bs
  pub good : (i : ℕ) → i < edges_of bs → GoodEdge bs i
