-- A graph that fits both forms has the same causes in both, and is read back from both. Assumes nothing.
use Prim.Native.Nat.{ℕ, ◌*◌, ◌≤◌, ◌<◌}
use native.Mathlib.Omega.{arith}
use mathlib.Core.Path.{◌≡◌, refl, sym, ap, ◌∙◌}
use mathlib.Core.Bool.{false, ◌&&◌, ◌||◌}
use mathlib.Core.List.{List, [], ◌∷◌, ◌++◌, Memᴰ}
use lib.Dec.{eqb, ltb}
use lib.ListN.{length}
use borrow.Author.Tests.{le-ltb}
use Rattle.defs.specs.Forms.{Form, sgr1, sgr2, limits}
use Rattle.defs.specs.SeqGraph.{Graph, node_count}
use Rattle.defs.specs.Simplify.{sequence_bytes}
use Rattle.defs.specs.Record.{RecordKind, kmer_graph, sequence_graph, record_kind_number, vertices_of, whole_length, encode, decode}
use Rattle.defs.specs.Refusals.{Takes, refusal_of, has_cycle, layout_causes, doubled, record_causes, record_refusal}
use Rattle.form.specs.Coded.{word_limit}
use Rattle.form.proofs.FormLaws.{between}
use Rattle.codec.specs.Encodable.{Encodable}
use Rattle.codec.proofs.Encoded.{form-written, vertices-read}
use Rattle.codec.proofs.RoundTrip.{decode-encode}
use Rattle.reread.specs.GraphCauses.{wrong_kind, graph_past_limit, other_kmers, ends_past, graph_layout_causes}
use Rattle.reread.proofs.Told.{layout-causes-told, doubled-told}
use Rattle.both_forms.specs.BothForms.{SameGraphBothForms, JudgedAlike, OneGraph}

-- what fits the fields of SGR1 fits those of SGR2
pub wider : {g : Graph} (f : Form) → Encodable sgr1 g → Encodable f g
unfolding word_limit
wider sgr1 E = E
wider sgr2 E = record {
  k = E.k;
  vertices = omega (arith, E.vertices);
  edges = omega (arith, E.edges);
  bytes = E.bytes;
  lengths = λ s m. omega (arith, E.lengths s m);
  each = λ e m. record { from = omega (arith, (E.each e m).from); to = omega (arith, (E.each e m).to); support = (E.each e m).support };
}

-- a graph that is written in both forms is one graph
pub one-graph : (kind : RecordKind) (status : ℕ) {g : Graph} → Encodable sgr1 g → OneGraph (encode sgr1 kind status g) (encode sgr2 kind status g)
one-graph kind status {g} E = record {
  first = form-written sgr1 kind status g;
  second = form-written sgr2 kind status g;
  graph = decode-encode sgr1 kind status g E ∙ sym (decode-encode sgr2 kind status g (wider sgr2 E));
}

-- sequences of fewer than 65,536 bytes each
most_bytes : (vs : List (List ℕ)) → ((s : List ℕ) → Memᴰ s vs → length s < 65536) → sequence_bytes vs ≤ 65536 * length vs
unfolding sequence_bytes
most_bytes [] h = omega arith
most_bytes (v ∷ vs) h = omega (arith, h v (Memᴰ.head refl), most_bytes vs (λ s m. h s (Memᴰ.tail m)))

-- the limit of bytes, which is one of kind 1
bytes-within : (kind : RecordKind) {m b : ℕ} → (record_kind_number kind ≡ 1 → b ≤ m) → (eqb (record_kind_number kind) 1 && ltb m b) ≡ false
unfolding record_kind_number
bytes-within kmer_graph h = refl
bytes-within sequence_graph {m} {b} h = le-ltb m b (h refl)

module _ (kind : RecordKind) (status : ℕ) (g : Graph) (ok : SameGraphBothForms kind g) where
  abbrev record-in : Form → List ℕ
  record-in f = encode f kind status g

  pub fits_in : (f : Form) → Encodable f g
  fits_in f = wider f ok.fits

  few_bytes : sequence_bytes g.verts ≤ 134217728
  unfolding word_limit node_count limits
  few_bytes = omega (arith, most_bytes g.verts ok.fits.lengths, ok.vertices)

  short-in : (f : Form) → whole_length f (node_count g) (length g.edges) (sequence_bytes g.verts) < 4294967296
  unfolding limits
  short-in f =
      let B = between f (node_count g) (length g.edges) (sequence_bytes g.verts) in
      omega (arith, ok.vertices, ok.edges, few_bytes, B.whole_is, B.bytes_most, B.edges_most)

  -- within SGR1's limits of input it is within those of either form: 3 goes by k alone
  vertices-in : (f : Form) → node_count g ≤ (limits f).vertices
  unfolding limits
  vertices-in sgr1 = ok.vertices
  vertices-in sgr2 = omega (arith, ok.vertices)

  edges-in : (f : Form) → length g.edges ≤ (limits f).edges
  unfolding limits
  edges-in sgr1 = ok.edges
  edges-in sgr2 = omega (arith, ok.edges)

  bytes-in : (f : Form) → record_kind_number kind ≡ 1 → sequence_bytes g.verts ≤ (limits f).bytes
  unfolding limits
  bytes-in sgr1 o = ok.bytes o
  bytes-in sgr2 o = omega (arith, ok.bytes o)

  limit-told : (f : Form) → graph_past_limit f kind g ≡ (ltb g.k 2 || (ltb 128 g.k || false))
  unfolding graph_past_limit
  limit-told f =
      let v = le-ltb (limits f).vertices (node_count g) (vertices-in f) in
      let e = le-ltb (limits f).edges (length g.edges) (edges-in f) in
      let b = bytes-within kind (bytes-in f) in
      λ i. ltb g.k 2 || (ltb 128 g.k || (v i || (e i || b i)))

  limit-same : graph_past_limit sgr1 kind g ≡ graph_past_limit sgr2 kind g
  limit-same = limit-told sgr1 ∙ sym (limit-told sgr2)

  told_same : (t : Takes) → graph_layout_causes sgr1 t kind status g ≡ graph_layout_causes sgr2 t kind status g
  unfolding graph_layout_causes
  told_same t = λ i.
      record { number = 1; present = false }
      ∷ record { number = 2; present = wrong_kind t kind status }
      ∷ record { number = 3; present = limit-same i }
      ∷ record { number = 4; present = other_kmers kind g }
      ∷ record { number = 5; present = ends_past g }
      ∷ []

  pub layout-same : (t : Takes) → layout_causes t (record-in sgr1) ≡ layout_causes t (record-in sgr2)
  layout-same t =
      layout-causes-told sgr1 kind status g (fits_in sgr1) (short-in sgr1) t
      ∙ told_same t
      ∙ sym (layout-causes-told sgr2 kind status g (fits_in sgr2) (short-in sgr2) t)

  pub doubled-same : doubled (record-in sgr1) ≡ doubled (record-in sgr2)
  doubled-same =
      doubled-told sgr1 kind status g (fits_in sgr1) (short-in sgr1)
      ∙ sym (doubled-told sgr2 kind status g (fits_in sgr2) (short-in sgr2))

  pub graph-in : (f : Form) → decode (record-in f) ≡ g
  graph-in f = decode-encode f kind status g (fits_in f)

  pub graph_same : decode (record-in sgr1) ≡ decode (record-in sgr2)
  graph_same = graph-in sgr1 ∙ sym (graph-in sgr2)

  pub vertices-same : vertices_of (record-in sgr1) ≡ vertices_of (record-in sgr2)
  vertices-same = vertices-read sgr1 kind status g (fits_in sgr1) ∙ sym (vertices-read sgr2 kind status g (fits_in sgr2))

  causes-same : (t : Takes) → record_causes t (record-in sgr1) ≡ record_causes t (record-in sgr2)
  unfolding record_causes
  causes-same t = λ i.
      layout-same t i ++ (record { number = 6; present = doubled-same i } ∷ record { number = 7; present = has_cycle (graph_same i) } ∷ [])

  pub judged-alike : JudgedAlike (record-in sgr1) (record-in sgr2)
  unfolding record_refusal
  judged-alike = record { graph = graph_same; causes = causes-same; refusal = λ t. ap refusal_of (causes-same t) }
