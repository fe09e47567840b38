-- Reading a written graph gives it back, and writing a graph that was read gives the record back.
-- Assumes nothing.
use Prim.Native.Nat.{ℕ, zero, suc, ◌+◌, ◌*◌, ◌≤◌, ◌<◌}
use mathlib.Core.Path.{◌≡◌, refl, ap, ◌∙◌}
use mathlib.Core.Bool.{false}
use mathlib.Core.List.Memᴰ
use mathlib.Core.List.{List, [], ◌++◌, map, Memᴰ}
use mathlib.Core.Logic.{⊎_elim}
use native.Mathlib.Nat.{add-suc, suc-add}
use native.Mathlib.Omega.{arith}
use lib.ListN.{length, get_or}
use Rattle.defs.specs.Lists.{concat, tab_from, tab}
use Rattle.defs.specs.Forms.{Form, form_of, word_size, lengths_at, edge_size, limits}
use Rattle.defs.specs.SeqGraph.{Edge, Graph, node_count}
use Rattle.defs.specs.Simplify.{sequence_bytes}
use Rattle.defs.specs.Record.{RecordKind, record_kind_number, kind_of, status_of, k_of, vertices_of, edges_of, bytes_of, u32_at, word_bytes, encode_edge}
use Rattle.defs.specs.Record.{encode_header, encode, edges_at, bytes_at, length_at, sequence_at, edge_start, edge_at, decode}
use Rattle.defs.specs.Refusals.{Takes, refusal_of, layout_causes}
use Rattle.tabs.proofs.Tabs.{tab-ext, length-tab, tab-get_or}
use Rattle.tabs.proofs.SumTabs.{sum_below}
use Rattle.form.proofs.FormLaws.{limits-small, limits-fit}
use Rattle.record.specs.Layout.{WellFormed}
use Rattle.record.proofs.Accepted.{well-formed}
use Rattle.record.proofs.Fields.{support-is}
use Rattle.record.proofs.Sequences.{length-sequence, bytes_most}
use Rattle.codec.specs.Encodable.{Encodable, WithinEdge, WithinAnswer}
use Rattle.codec.proofs.Encoded.{k-read, vertices-read, edges-read, sequence-read, edge-read}
use Rattle.codec.proofs.Decoded.{header-back, lengths-back, edges-back, bytes_back, bytes_count, in_parts}

same_graph : (g h : Graph) → g.k ≡ h.k → g.verts ≡ h.verts → g.edges ≡ h.edges → g ≡ h
same_graph g h a b c = λ i. record { k = a i; verts = b i; edges = c i }

-- a written graph is read back
pub decode-encode : (f : Form) (kind : RecordKind) (status : ℕ) (g : Graph) → Encodable f g → decode (encode f kind status g) ≡ g
unfolding decode node_count
decode-encode f kind status g ok =
    let bs : List ℕ = encode f kind status g in
    let none : Edge = record { from = 0; to = 0; support = 0; is_ref = false; capped = false } in
    same_graph (decode bs) g
    (k-read f kind status g ok)
    (ap (λ (n : ℕ). tab n (sequence_at bs)) (vertices-read f kind status g ok)
    ∙ tab-ext (length g.verts) _ _ (sequence-read f kind status g ok)
    ∙ tab-get_or g.verts [])
    (ap (λ (n : ℕ). tab n (edge_at bs)) (edges-read f kind status g ok)
    ∙ tab-ext (length g.edges) _ _ (edge-read f kind status g ok none)
    ∙ tab-get_or g.edges none)

written : Form → ℕ → ℕ → ℕ → ℕ → ℕ → ℕ → List (List ℕ) → List Edge → List ℕ
written f kind status k v e b verts edges =
    encode_header f kind status k v e b ++ concat (map (λ s. word_bytes f (length s)) verts) ++ concat (map (encode_edge f) edges) ++ concat verts

module _ (bs : List ℕ) (small : (i : ℕ) → get_or bs i 0 < 256) (ok : WellFormed bs) where
  written_back : written (form_of bs) (kind_of bs) (status_of bs) (k_of bs) (vertices_of bs) (edges_of bs) (bytes_of bs) (tab (vertices_of bs) (sequence_at bs))
      (tab (edges_of bs) (edge_at bs)) ≡ bs
  unfolding written edges_at bytes_at
  written_back =
      let f = form_of bs in
      (λ i. header-back bs small ok i ++ lengths-back bs small ok i ++ edges-back bs small ok i ++ bytes_back bs small ok i)
      ∙ in_parts bs (lengths_at f) (word_size f * vertices_of bs) (edge_size f * edges_of bs)

  -- a well formed record is written back from what is read of it
  pub encode-decode : (kind : RecordKind) → record_kind_number kind ≡ kind_of bs → encode (form_of bs) kind (status_of bs) (decode bs) ≡ bs
  unfolding encode decode node_count written
  encode-decode kind kind-is =
      let vs : List (List ℕ) = tab (vertices_of bs) (sequence_at bs) in
      let es : List Edge = tab (edges_of bs) (edge_at bs) in
      let v : length vs ≡ vertices_of bs = length-tab (vertices_of bs) (sequence_at bs) in
      let e : length es ≡ edges_of bs = length-tab (edges_of bs) (edge_at bs) in
      (λ i. written (form_of bs) (kind-is i) (status_of bs) (k_of bs) (v i) (e i) (bytes_count bs small ok i) vs es)
      ∙ written_back

-- the same for a list of bytes that none of the refusals 1 to 5 meets, whichever kinds the call takes
pub encode-decode-accepted : (t : Takes) (bs : List ℕ) → ((i : ℕ) → get_or bs i 0 < 256) → refusal_of (layout_causes t bs) ≡ 0
    → (kind : RecordKind) → record_kind_number kind ≡ kind_of bs → encode (form_of bs) kind (status_of bs) (decode bs) ≡ bs
encode-decode-accepted t bs small h = encode-decode bs small (well-formed t bs h)

pub within-encodable : (f : Form) (g : Graph) → WithinAnswer f g → Encodable f g
within-encodable f g w =
    let most = limits-fit f in
    record {
      k = omega (arith, w.k);
      vertices = omega (arith, w.vertices, most);
      edges = omega (arith, w.edges, most);
      bytes = w.bytes;
      lengths = λ s m. omega (arith, w.lengths s m, most);
      each = λ e m. record {
        from = omega (arith, w.vertices, (w.each e m).from, most);
        to = omega (arith, w.vertices, (w.each e m).to, most);
        support = (w.each e m).support;
      };
    }

-- a sequence is no longer than all together
pub part-most : {s : List ℕ} {vs : List (List ℕ)} → Memᴰ s vs → length s ≤ sequence_bytes vs
unfolding sequence_bytes
part-most {s} (Memᴰ.head e) = omega (arith, ap length e)
part-most (Memᴰ.tail m) = omega (arith, part-most m)

-- every answer fits
pub answer-encodable : (f : Form) (g : Graph) → g.k ≤ 128 → node_count g ≤ (limits f).answer_vertices → length g.edges ≤ (limits f).answer_edges
    → sequence_bytes g.verts ≤ (limits f).bytes → ((e : Edge) → Memᴰ e g.edges → WithinEdge g e) → Encodable f g
answer-encodable f g hk hv he hb each =
    within-encodable f g
    record {
      k = hk;
      vertices = hv;
      edges = he;
      bytes = omega (arith, hb, (limits-small f).bytes);
      lengths = λ s m. omega (arith, hb, part-most m);
      each = each;
    }

-- every graph of an accepted record fits
mem-tab_from : {A X : Type 0} (s n : ℕ) (f : ℕ → A) {x : A} → Memᴰ x (tab_from s n f) → ((i : ℕ) → i < s + n → x ≡ f i → X) → X
unfolding tab_from
mem-tab_from s zero f m go = absurd (Memᴰ.not-nil m)
mem-tab_from {A} {X} s (suc n) f {x} m go =
    ⊎_elim (λ (e : x ≡ f s). go s (omega (arith, add-suc s n)) e)
    (λ (l : Memᴰ x (tab_from (suc s) n f)). mem-tab_from (suc s) n f l (λ i h e. go i (omega (arith, add-suc s n, suc-add s n)) e))
    (Memᴰ.cases_cons m)

mem-tab : {A X : Type 0} (n : ℕ) (f : ℕ → A) {x : A} → Memᴰ x (tab n f) → ((i : ℕ) → i < n → x ≡ f i → X) → X
mem-tab n f m go = mem-tab_from 0 n f m (λ i h e. go i (omega arith) e)

module _ (bs : List ℕ) (small : (i : ℕ) → get_or bs i 0 < 256) (ok : WellFormed bs) where
  length-within : (i : ℕ) → i < vertices_of bs → length (sequence_at bs i) ≤ (limits (form_of bs)).bytes
  length-within i below =
      let l : length (sequence_at bs i) ≡ length_at bs i = length-sequence bs i below ok in
      by_kind (λ (z : kind_of bs ≡ 0). omega (arith, ok.kmers z i below, ok.k-most, (limits-fit (form_of bs)).kmer))
      (λ (o : kind_of bs ≡ 1). omega (arith, sum_below (vertices_of bs) i (length_at bs) below, ok.lengths, ok.bytes o))
    where
      split : {X : Type 0} (n : ℕ) → n ≤ 1 → (n ≡ 0 → X) → (n ≡ 1 → X) → X
      split zero h f g = f refl
      split (suc zero) h f g = g refl
      split (suc (suc n)) h f g = absurd (omega arith)

      by_kind : {X : Type 0} → (kind_of bs ≡ 0 → X) → (kind_of bs ≡ 1 → X) → X
      by_kind f g = split (kind_of bs) ok.kind f g

  support-small : (o : ℕ) → u32_at bs o < 4294967296
  unfolding u32_at
  support-small o = omega (arith, small o, small (o + 1), small (o + 2), small (o + 3))

  edge-within : (i : ℕ) → i < edges_of bs → WithinEdge (decode bs) (edge_at bs i)
  unfolding decode node_count
  edge-within i below =
      let v : length (tab (vertices_of bs) (sequence_at bs)) ≡ vertices_of bs = length-tab (vertices_of bs) (sequence_at bs) in
      record {
        from = omega (arith, (ok.good i below).from);
        to = omega (arith, (ok.good i below).to);
        support = omega (arith, support-is bs i, support-small (edge_start bs i + 2 * word_size (form_of bs)));
      }

  decoded-within : WithinAnswer (form_of bs) (decode bs)
  unfolding decode node_count
  decoded-within =
      let most = limits-small (form_of bs) in
      record {
        k = ok.k-most;
        vertices = omega (arith, length-tab (vertices_of bs) (sequence_at bs), ok.vertices, most);
        edges = omega (arith, length-tab (edges_of bs) (edge_at bs), ok.edges, most);
        bytes = omega (arith, bytes_count bs small ok, bytes_most bs ok);
        lengths = λ s m. mem-tab (vertices_of bs) (sequence_at bs) m (λ i below e. omega (arith, length-within i below, ap length e));
        each = λ x m. mem-tab (edges_of bs) (edge_at bs) m (λ i below e. rw e (edge-within i below));
      }

  pub decoded-encodable : Encodable (form_of bs) (decode bs)
  decoded-encodable = within-encodable (form_of bs) (decode bs) decoded-within
