-- A record that is accepted holds a graph within the limits of input. Assumes nothing.
use Prim.Native.Nat.{ℕ, ◌<◌, ◌≤◌}
use native.Mathlib.Omega.{arith}
use mathlib.Core.Path.{◌≡◌, refl, ap, ◌∙◌}
use mathlib.Core.Logic.{inr}
use mathlib.Core.List.{List, Memᴰ}
use lib.ListN.{length, get_or}
use Rattle.defs.specs.Forms.{form_of}
use Rattle.defs.specs.SeqGraph.{Edge}
use Rattle.defs.specs.Record.{kind_of, k_of, vertices_of, sequence_at, decode}
use Rattle.defs.specs.Refusals.{Takes, kmer_only, sequence_only, record_refusal}
use Rattle.tabs.proofs.ListTabs.{of-mem-tab}
use Rattle.record.specs.Layout.{WellFormed}
use Rattle.record.proofs.Accepted.{kmer-kind, sequence-kind}
use Rattle.record.proofs.Sequences.{length-sequence}
use Rattle.sound.specs.Alike.{SameKmers}
use Rattle.sound.proofs.Accepted.{by-refusal, order-read, edges-read, accepted-early, accepted-layout, accepted-good, accepted-limits, means-six}
use Rattle.codec.proofs.RoundTrip.{decoded-encodable}
use Rattle.reread.specs.Recordable.{SequenceInput, KmerInput}

-- a list of bytes
abbrev pub Bytes : List ℕ → Type 0
Bytes bs = (i : ℕ) → get_or bs i 0 < 256

-- 11 does not lie in the record
pub record-most : (t : Takes) (bs : List ℕ) → record_refusal t bs ≤ 7
record-most t bs = by-refusal t bs (λ l u r. omega (arith, r, u)) (λ a d r. omega (arith, r)) (λ a d c r. omega (arith, r)) (λ a d c r. omega (arith, r))

k-is : (bs : List ℕ) → (decode bs).k ≡ k_of bs
unfolding decode
k-is bs = refl

-- supports that fit four bytes are all that is asked beside the checks
abbrev SupportsFit : List ℕ → Type 0
SupportsFit bs = (e : Edge) → Memᴰ e (decode bs).edges → e.support < 4294967296

supports-fit : (t : Takes) (bs : List ℕ) → Bytes bs → record_refusal t bs ≡ 0 → SupportsFit bs
supports-fit t bs small ok e m = ((decoded-encodable bs small (accepted-layout t bs ok)).each e m).support

pub accepted-input : (bs : List ℕ) → SupportsFit bs → record_refusal sequence_only bs ≡ 0 → SequenceInput (form_of bs) (decode bs)
accepted-input bs fit ok =
    let W = accepted-layout sequence_only bs ok in
    let L = accepted-limits sequence_only bs ok (sequence-kind bs (accepted-early sequence_only bs ok)) in
    record {
      good = accepted-good sequence_only bs ok;
      k-least = omega (arith, k-is bs, W.k-least);
      k-most = omega (arith, k-is bs, W.k-most);
      vertices = L.vertices;
      edges = L.edges;
      bytes = L.few;
      supports = fit;
    }

-- of bytes they do
pub sequence-input : (bs : List ℕ) → Bytes bs → record_refusal sequence_only bs ≡ 0 → SequenceInput (form_of bs) (decode bs)
sequence-input bs small ok = accepted-input bs (supports-fit sequence_only bs small ok) ok

module _ (bs : List ℕ) (small : Bytes bs) (ok : record_refusal kmer_only bs ≡ 0) where
  W : WellFormed bs
  W = accepted-layout kmer_only bs ok

  kind-is : kind_of bs ≡ 0
  kind-is = kmer-kind bs (accepted-early kmer_only bs ok)

  size-read : (s : List ℕ) → Memᴰ s (decode bs).verts → length s ≡ (decode bs).k
  unfolding decode
  size-read s m =
      let i = of-mem-tab (vertices_of bs) (sequence_at bs) m in
      ap length i.2 ∙ length-sequence bs i.0 i.1 W ∙ W.kmers kind-is i.0 i.1

  never-same : SameKmers (decode bs) → ⊥
  never-same s = omega (arith, ok, means-six kmer_only bs (accepted-early kmer_only bs ok) (inr (kind-is, s)))

  pub kmer-input : KmerInput (form_of bs) (decode bs)
  kmer-input = record {
    good = accepted-good kmer_only bs ok;
    k-least = omega (arith, k-is bs, W.k-least);
    k-most = omega (arith, k-is bs, W.k-most);
    vertices = omega (arith, order-read bs, W.vertices);
    edges = omega (arith, edges-read bs, W.edges);
    kmers = record { sizes = size-read; distinct = never-same; status-none = refl };
    supports = supports-fit kmer_only bs small ok;
  }
