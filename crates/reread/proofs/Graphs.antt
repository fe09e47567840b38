-- The record of a graph within the limits is read back; it is refused with 3, or not at all. Assumes nothing.
use Prim.Native.Nat.{ℕ, ◌*◌, ◌≤◌, ◌<◌}
use native.Mathlib.Omega.{arith}
use mathlib.Core.Path.{◌≡◌, refl, ap, ◌∙◌}
use mathlib.Core.Bool.{Bool, true, false, cond, ◌||◌}
use mathlib.Core.List.{List, [], ◌∷◌, Memᴰ}
use lib.Dec.{ltb}
use lib.ListN.{length}
use borrow.Author.Tests.{le-ltb}
use Rattle.defs.specs.Forms.{Form, sgr1, sgr2, word_size, lengths_at, edge_size, limits}
use Rattle.defs.specs.SeqGraph.{Graph, node_count}
use Rattle.defs.specs.Simplify.{sequence_bytes}
use Rattle.defs.specs.Record.{RecordKind, kmer_graph, sequence_graph, record_kind_number, edges_at, bytes_at, whole_length, encode, decode}
use Rattle.defs.specs.Refusals.{Takes, kmer_only, sequence_only, both_kinds, takes_kind, record_refusal}
use Rattle.form.proofs.FormLaws.{limits-small, limits-fit, between}
use Rattle.codec.specs.Encodable.{Encodable}
use Rattle.codec.proofs.Encoded.{form-written, length-written}
use Rattle.codec.proofs.RoundTrip.{decode-encode, answer-encodable, within-encodable}
use Rattle.load.specs.Loaded.{Laid}
use Rattle.reread.specs.Reread.{answer_length, input_length, past_input_count, RereadAs, ReacceptedAs}
use Rattle.reread.specs.GraphCauses.{graph_past_limit}
use Rattle.reread.specs.Recordable.{Recordable, SequenceInput, KmerInput, SequenceAnswer}
use Rattle.reread.proofs.Written.{written-refusal, written-laid}

takes-sequence : takes_kind sequence_only (record_kind_number sequence_graph) ≡ true
unfolding takes_kind record_kind_number
takes-sequence = refl

takes-kmers : takes_kind kmer_only (record_kind_number kmer_graph) ≡ true
unfolding takes_kind record_kind_number
takes-kmers = refl

takes-both : (kind : RecordKind) → takes_kind both_kinds (record_kind_number kind) ≡ true
unfolding takes_kind record_kind_number
takes-both kmer_graph = refl
takes-both sequence_graph = refl

-- ---- lengths

-- the longest records
module _ (v e b : ℕ) where
  answer-size : (f : Form) → v ≤ (limits f).answer_vertices → e ≤ (limits f).answer_edges → b ≤ (limits f).bytes → whole_length f v e b ≤ answer_length f
  unfolding limits answer_length whole_length bytes_at edges_at lengths_at word_size edge_size
  answer-size sgr1 hv he hb = omega arith
  answer-size sgr2 hv he hb = omega arith

  input-size : (f : Form) → v ≤ (limits f).vertices → e ≤ (limits f).edges → b ≤ (limits f).bytes → whole_length f v e b ≤ input_length f
  unfolding limits input_length whole_length bytes_at edges_at lengths_at word_size edge_size
  input-size sgr1 hv he hb = omega arith
  input-size sgr2 hv he hb = omega arith

-- they fit their field
answer-short : (f : Form) → answer_length f < 4294967296
unfolding answer_length
answer-short sgr1 = omega arith
answer-short sgr2 = omega arith

-- ---- sequence graphs

or-none : (a b : Bool) → (a || (b || false)) ≡ (a || b)
or-none true b = refl
or-none false true = refl
or-none false false = refl

-- within the limits of answers
module _ (f : Form) (g : Graph) (A : SequenceAnswer f g) where
  pub answer-encodes : Encodable f g
  answer-encodes = answer-encodable f g A.k-most A.vertices A.edges A.bytes
      (λ e m. let b = A.good.0.bounded e m in record { from = b.0; to = b.1; support = A.supports e m })

  answer-sized : whole_length f (node_count g) (length g.edges) (sequence_bytes g.verts) ≤ answer_length f
  answer-sized = answer-size (node_count g) (length g.edges) (sequence_bytes g.verts) f A.vertices A.edges A.bytes

  answer-recordable : (status : ℕ) → status ≤ 2 → Recordable f sequence_graph status g
  unfolding record_kind_number
  answer-recordable status s = record {
    encodable = answer-encodes;
    whole = omega (arith, answer-sized, answer-short f);
    good = A.good;
    status-most = s;
    kmers = λ z. absurd (omega arith);
  }

  -- k and the bytes are within the limits of input
  answer-limit : graph_past_limit f sequence_graph g ≡ past_input_count f g
  unfolding graph_past_limit past_input_count record_kind_number
  answer-limit =
      let v = ltb (limits f).vertices (node_count g) in
      let e = ltb (limits f).edges (length g.edges) in
      let small = le-ltb g.k 2 A.k-least in
      let large = le-ltb 128 g.k A.k-most in
      let long = le-ltb (limits f).bytes (sequence_bytes g.verts) A.bytes in
      (λ i. small i || (large i || (v || (e || long i)))) ∙ or-none v e

  answer-refusal : (status : ℕ) → status ≤ 2 → (t : Takes) → takes_kind t (record_kind_number sequence_graph) ≡ true
      → record_refusal t (encode f sequence_graph status g) ≡ cond (past_input_count f g) 3 0
  answer-refusal status s t k =
      written-refusal f sequence_graph status g (answer-recordable status s) t k ∙ ap (λ (b : Bool). cond b 3 0) answer-limit

  pub answer-reread : (status : ℕ) → status ≤ 2 → RereadAs f g (encode f sequence_graph status g)
  answer-reread status s = record {
    form = form-written f sequence_graph status g;
    graph = decode-encode f sequence_graph status g answer-encodes;
    vertices = A.vertices;
    edges = A.edges;
    bytes = A.bytes;
    size = omega (arith, length-written f sequence_graph status g, answer-sized);
    refusal = answer-refusal status s sequence_only takes-sequence;
    refusal-both = answer-refusal status s both_kinds (takes-both sequence_graph);
  }

  pub answer-laid : (status : ℕ) → status ≤ 2 → Laid (encode f sequence_graph status g)
  answer-laid status s = written-laid f sequence_graph status g (answer-recordable status s)

-- within the limits of input: accepted
module _ (f : Form) (g : Graph) (I : SequenceInput f g) where
  pub input-answer : SequenceAnswer f g
  input-answer =
      let grown = limits-small f in
      record {
        good = I.good;
        k-least = I.k-least;
        k-most = I.k-most;
        vertices = omega (arith, I.vertices, grown);
        edges = omega (arith, I.edges, grown);
        bytes = I.bytes;
        supports = I.supports;
      }

  none-past : ◌≡◌ {A = ℕ} (cond (past_input_count f g) 3 0) 0
  unfolding past_input_count
  none-past = λ i.
      cond (le-ltb (limits f).vertices (node_count g) I.vertices i || le-ltb (limits f).edges (length g.edges) I.edges i) 3 0

  pub input-reaccepted : (status : ℕ) → status ≤ 2 → ReacceptedAs f g (encode f sequence_graph status g)
  input-reaccepted status s =
      let R = answer-reread f g input-answer status s in
      let sized = input-size (node_count g) (length g.edges) (sequence_bytes g.verts) f I.vertices I.edges I.bytes in
      record {
        form = R.form;
        graph = R.graph;
        vertices = I.vertices;
        edges = I.edges;
        bytes = I.bytes;
        size = omega (arith, length-written f sequence_graph status g, sized);
        refusal = R.refusal ∙ none-past;
        refusal-both = R.refusal-both ∙ none-past;
      }

-- ---- k-mer graphs

kmer-bytes : (k : ℕ) (vs : List (List ℕ)) → k ≤ 128 → ((s : List ℕ) → Memᴰ s vs → length s ≡ k) → sequence_bytes vs ≤ 128 * length vs
unfolding sequence_bytes
kmer-bytes k [] l h = omega arith
kmer-bytes k (v ∷ vs) l h = omega (arith, h v (Memᴰ.head refl), kmer-bytes k vs l (λ s m. h s (Memᴰ.tail m)))

-- within the limits of input: accepted
module _ (f : Form) (g : Graph) (I : KmerInput f g) where
  few_bytes : sequence_bytes g.verts ≤ 4194304
  unfolding node_count
  few_bytes = omega (arith, kmer-bytes g.k g.verts I.k-most I.kmers.sizes, I.vertices, (limits-small f).vertices)

  kmers-encode : Encodable f g
  kmers-encode =
      let grown = limits-small f in
      within-encodable f g record {
        k = I.k-most;
        vertices = omega (arith, I.vertices, grown);
        edges = omega (arith, I.edges, grown);
        bytes = omega (arith, few_bytes);
        lengths = λ s m. omega (arith, I.kmers.sizes s m, I.k-most, (limits-fit f).kmer);
        each = λ e m. let b = I.good.0.bounded e m in record { from = b.0; to = b.1; support = I.supports e m };
      }

  kmer-recordable : Recordable f kmer_graph 0 g
  kmer-recordable = record {
    encodable = kmers-encode;
    whole =
        let grown = limits-small f in
        let B = between f (node_count g) (length g.edges) (sequence_bytes g.verts) in
        omega (arith, I.vertices, I.edges, few_bytes, grown, B.whole_is, B.bytes_most, B.edges_most);
    good = I.good;
    status-most = omega arith;
    kmers = λ z. I.kmers;
  }

  kmer-limit : graph_past_limit f kmer_graph g ≡ false
  unfolding graph_past_limit record_kind_number
  kmer-limit =
      let small = le-ltb g.k 2 I.k-least in
      let large = le-ltb 128 g.k I.k-most in
      let v = le-ltb (limits f).vertices (node_count g) I.vertices in
      let e = le-ltb (limits f).edges (length g.edges) I.edges in
      λ i. small i || (large i || (v i || (e i || false)))

  kmer-refusal : (t : Takes) → takes_kind t (record_kind_number kmer_graph) ≡ true → record_refusal t (encode f kmer_graph 0 g) ≡ 0
  kmer-refusal t k = written-refusal f kmer_graph 0 g kmer-recordable t k ∙ ap (λ (b : Bool). cond b 3 0) kmer-limit

  pub kmers-reread : decode (encode f kmer_graph 0 g) ≡ g
  kmers-reread = decode-encode f kmer_graph 0 g kmers-encode

  pub kmers-reaccepted : record_refusal kmer_only (encode f kmer_graph 0 g) ≡ 0
  kmers-reaccepted = kmer-refusal kmer_only takes-kmers

  pub kmers-reaccepted-by-both : record_refusal both_kinds (encode f kmer_graph 0 g) ≡ 0
  kmers-reaccepted-by-both = kmer-refusal both_kinds (takes-both kmer_graph)
