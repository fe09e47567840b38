-- A record of kind 0 that is read. Assumes nothing.
use Rattle.std.specs.Prelude.{◌≡◌, Result, Ok, Bool, false, ◌||◌, List, [], ◌∷◌, ◌++◌, ℕ, ◌+◌, ◌*◌, ◌≤◌, ◌<◌, length, get_or}
use Rattle.defs.specs.Forms.{form_of, limits}
use Rattle.defs.specs.Refusals.{Cause, refusal_of, kmer_only, doubled_edge, equal_kmers, layout_causes, doubled_cause, overlap_cause, cycle_cause}
use Rattle.store.specs.Store.{edges_in, seqs_in}
use Rattle.index.specs.Index.{Indexed}
use Rattle.memory.specs.declared.Held.{Held}
use Rattle.load.specs.Loaded.{Loaded}
use Rattle.refusal.specs.Refusals.{refused_by}
use Rattle.refusal.specs.declared.Refusal.{Refusal}
use Rattle.kmer_order.specs.Order.{KmerOrder}

-- the causes 1 to 6, and 1 to 6, 15, 7
abbrev pub kmer_causes : List ℕ → List Cause
kmer_causes bs = layout_causes kmer_only bs ++ (doubled_cause bs ∷ [])

abbrev pub overlapping_causes : List ℕ → List Cause
overlapping_causes bs = layout_causes kmer_only bs ++ (doubled_cause bs ∷ overlap_cause bs ∷ cycle_cause bs ∷ [])

-- two edges with the same ends, or two equal k-mers; where neither, the vertices in the order of their k-mers
pub record Doubles (m n : ℕ) (es vs p : List ℕ) (r : Bool) (order : List ℕ) : Type 0 where
  pub is : r ≡ (doubled_edge (edges_in m es) || equal_kmers (seqs_in n vs p))
  pub ordered : r ≡ false → KmerOrder n vs p order

-- the record's graph in the slices, its k-mers in the record itself; indexed, without doubled edges or k-mers, and its vertices in the order of
-- their k-mers
pub record HoldsKmers (bs : List ℕ) (h : Held) (es vs heads nexts order : List ℕ) : Type 0 where
  pub loaded : Loaded bs h es vs
  pub single : doubled_edge (edges_in h.m es) ≡ false
  pub distinct : equal_kmers (seqs_in h.n vs bs) ≡ false
  pub k-least : 2 ≤ h.k.0
  pub k-most : h.k.0 ≤ 128
  pub vertices : h.n ≤ (limits (form_of bs)).vertices
  pub edges : h.m ≤ (limits (form_of bs)).edges
  pub short : length bs ≤ 5177380
  pub sizes : (v : ℕ) → v < h.n → get_or vs (2 * v + 1) 0 ≡ h.k.0
  pub indexed : Indexed h.m h.n es heads nexts
  pub ordered : KmerOrder h.n vs bs order

-- the number is that of the causes; a graph that was read is the record's, and held
pub record KmersRead (causes : List Cause) (bs : List ℕ) (r : Result Held Refusal) (es vs heads nexts order : List ℕ) : Type 0 where
  pub number : refused_by r ≡ refusal_of causes
  pub holds : (h : Held) → r ≡ Ok h → HoldsKmers bs h es vs heads nexts order
