-- Where the k-mers of a record stand, and what the test of an edge compares. Assumes nothing.
use mathlib.Core.Path.{◌≡◌, sym, ap, ◌∙◌}
use mathlib.Core.Bool.{Bool, not}
use mathlib.Core.List.{List}
use Prim.Native.Nat.{ℕ, ◌+◌, ◌*◌, ◌-◌, ◌≤◌, ◌<◌}
use native.Mathlib.Omega.{arith}
use lib.ListN.{length, take, drop}
use lib.Seq.{take-take}
use Rattle.defs.specs.Lists.{any_of, up_from, same_list}
use Rattle.defs.specs.SeqGraph.{Edge, vertex_sequence}
use Rattle.defs.specs.Forms.{form_of}
use Rattle.defs.specs.Record.{k_of, vertices_of, edges_of, bytes_at, length_at, sequence_start, edge_at, decode}
use Rattle.defs.specs.Assembly.{first_bytes, last_bytes, overlaps}
use Rattle.defs.specs.Refusals.{edge_without_overlap}
use Rattle.tabs.proofs.ListTabs.{any-tab}
use Rattle.tabs.proofs.SumTabs.{sum-equal}
use Rattle.store.specs.Store.{part}
use Rattle.store.proofs.VertexLaws.{last-part}
use Rattle.kmer.specs.declared.KmerSize.{KmerSize}
use Rattle.record.proofs.Fields.{sequence_start-is, sequence_at-is}
use Rattle.record.proofs.Sequences.{vertex-is, sequence-inside}
use Rattle.overlap.specs.Overlap.{KmerRecord}

module _ {bs : List ℕ} {k : KmerSize} (R : KmerRecord bs k) where
  abbrev at : ℕ
  at = bytes_at (form_of bs) (vertices_of bs) (edges_of bs)

  module _ (v : ℕ) (below : v < vertices_of bs) where
    size_is : length_at bs v ≡ k_of bs
    size_is = R.formed.kmers R.kind v below

    -- k bytes stand before it for each vertex before it
    start_is : sequence_start bs v ≡ at + k_of bs * v
    start_is = sequence_start-is bs v
        ∙ ap (λ (x : ℕ). at + x) (sum-equal (k_of bs) v (length_at bs) (λ i b. R.formed.kmers R.kind i (omega arith)))

    kmer-inside : at + k_of bs * v + k_of bs ≤ length bs
    kmer-inside = omega (arith, sequence-inside bs v below R.formed, start_is, size_is)

    kmer-is : vertex_sequence (decode bs) v ≡ part bs (at + k_of bs * v) (k_of bs)
    kmer-is = vertex-is bs v below ∙ sequence_at-is bs v ∙ (λ i. take (size_is i) (drop (start_is i) bs))

    last-is : last_bytes (k_of bs - 1) (vertex_sequence (decode bs) v) ≡ part bs (at + k_of bs * v + 1) (k_of bs - 1)
    last-is =
        let one : at + k_of bs * v + (k_of bs - (k_of bs - 1)) ≡ at + k_of bs * v + 1 = omega (arith, R.formed.k-least) in
        ap (last_bytes (k_of bs - 1)) kmer-is
        ∙ sym (last-part bs (at + k_of bs * v) (k_of bs) (k_of bs - 1) kmer-inside (omega arith))
        ∙ ap (λ (x : ℕ). part bs x (k_of bs - 1)) one

    first-is : first_bytes (k_of bs - 1) (vertex_sequence (decode bs) v) ≡ part bs (at + k_of bs * v) (k_of bs - 1)
    first-is = ap (first_bytes (k_of bs - 1)) kmer-is ∙ take-take (k_of bs - 1) (k_of bs) (drop (at + k_of bs * v) bs) (omega arith)

  -- the k-mer of a vertex lies in the record, by the numbers as the code has them
  pub kmer-in-record : {v s a u : ℕ} → v < vertices_of bs → s ≡ k.0 → a ≡ at → u ≡ v → a + s * u + s ≤ length bs
  kmer-in-record {v} {s} below qs qa qu = let e : s ≡ k_of bs = qs ∙ R.size in rw (qa, e, qu) (kmer-inside v below)

  -- the bytes that are compared
  pub overlaps-is : (i : ℕ) → i < edges_of bs → {s f t a : ℕ} → s ≡ k.0 → f ≡ (edge_at bs i).from → t ≡ (edge_at bs i).to → a ≡ at → {r : Bool}
      → r ≡ same_list (part bs (a + s * f + 1) (s - 1)) (part bs (a + s * t) (s - 1)) → r ≡ overlaps (decode bs) (edge_at bs i)
  unfolding overlaps decode
  overlaps-is i b qs qf qt qa q =
      let good = R.formed.good i b in
      let qk = qs ∙ R.size in
      q ∙ (λ j. same_list (part bs (qa j + qk j * qf j + 1) (qk j - 1)) (part bs (qa j + qk j * qt j) (qk j - 1)))
      ∙ sym (λ j. same_list (last-is (edge_at bs i).from good.from j) (first-is (edge_at bs i).to good.to j))

  -- the search, by index
  pub without_is : edge_without_overlap (decode bs) ≡ any_of (λ (i : ℕ). not (overlaps (decode bs) (edge_at bs i))) (up_from 0 (edges_of bs))
  unfolding edge_without_overlap decode
  without_is = any-tab (λ (e : Edge). not (overlaps (decode bs) e)) (edges_of bs) (edge_at bs)

-- edge i of the record has no overlap
abbrev pub apart : List ℕ → ℕ → Bool
apart rec i = not (overlaps (decode rec) (edge_at rec i))

-- what the search over the edges gives when it ends with r at turn i
pub apart-found : {bs : List ℕ} {k : KmerSize} → KmerRecord bs k → (e i : ℕ) {r : Bool} → e ≡ edges_of bs
    → any_of (apart bs) (up_from i (e - i)) ≡ any_of (apart bs) (up_from 0 e) → any_of (apart bs) (up_from i (e - i)) ≡ r
    → r ≡ edge_without_overlap (decode bs)
apart-found {bs} R e i is same q = sym q ∙ same ∙ ap (λ (n : ℕ). any_of (apart bs) (up_from 0 n)) is ∙ sym (without_is R)
