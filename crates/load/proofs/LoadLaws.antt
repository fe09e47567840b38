-- The loops that read a record's graph, and the graph that they leave. Assumes nothing.
use mathlib.Core.Path.{◌≡◌, refl, sym, ap, ◌∙◌}
use mathlib.Core.List.{List}
use Prim.Native.Nat.{ℕ, ◌+◌, ◌*◌, ◌≤◌, ◌<◌}
use native.Mathlib.Omega.{arith}
use native.Mathlib.Decide.{ℕ_discrete}
use lib.ListN.{length, get_or, set, length-set}
use lib.Seq.{get_or-set_same, get_or-set_other}
use Rattle.defs.specs.Lists.{tab, sum}
use Rattle.defs.specs.SeqGraph.{Edge, Graph}
use Rattle.defs.specs.Forms.{form_of}
use Rattle.defs.specs.Record.{flag_is_ref, flag_is_capped, k_of, vertices_of, edges_of, bytes_of, bytes_at, length_at, edge_at, flag_at, sequence_start, sequence_at, decode}
use Rattle.tabs.proofs.Tabs.{tab-ext, set_more}
use Rattle.tabs.proofs.SumTabs.{sum-none, sum_more, sum_below}
use Rattle.form.specs.declared.Form.{Form}
use Rattle.form.specs.Coded.{form_is}
use Rattle.record.specs.Headed.{Headed, LengthInside, EdgeInside}
use Rattle.record.specs.Layout.{WellFormed}
use Rattle.record.proofs.Inside.{whole_parts, whole-least, whole-headed, whole-edge, whole_length_lem}
use Rattle.record.proofs.Fields.{is_ref-is, capped_is, sequence_start-is, sequence_at-is}
use Rattle.record.proofs.Sequences.{length_most}
use Rattle.store.specs.Store.{edge_in, edges_in, put_edge, put_vertex, seq_in, seqs_in, EndsBelow, Within}
use Rattle.store.proofs.EdgeLaws.{length-put, put_same, put_other}
use Rattle.pool.proofs.PoolLaws.{part_same}
use Rattle.kmer.specs.declared.KmerSize.{KmerSize}
use Rattle.memory.specs.Memory.{graph_of}
use Rattle.memory.specs.declared.Held.{Held}
use Rattle.load.specs.Loaded.{Laid, EdgesRead, VerticesRead, BytesRead, Loaded, Poolable, SequencesPooled}

-- a well formed record is laid out
pub formed-laid : {bs : List ℕ} → WellFormed bs → Laid bs
formed-laid {bs} W = record {
  whole = W.whole;
  small = omega (arith, length_most bs W);
  lengths = W.lengths;
  ends = λ i h. ((W.good i h).from, (W.good i h).to);
}

-- how long it is; its edges and lengths can be read
module _ {bs : List ℕ} (L : Laid bs) where
  pub laid-length : length bs ≡ bytes_at (form_of bs) (vertices_of bs) (edges_of bs) + bytes_of bs
  laid-length = whole_parts bs L.whole

  pub laid-least : 32 + 2 * vertices_of bs + 9 * edges_of bs + bytes_of bs ≤ length bs
  laid-least = whole-least bs L.whole

  module _ {form : Form} (is : form_is form ≡ form_of bs) where
    pub laid-headed : Headed form bs
    laid-headed = whole-headed bs L.whole is

    pub record-edge-inside : (i : ℕ) → i < edges_of bs → EdgeInside form bs i
    record-edge-inside = whole-edge bs L.whole is L.small

    pub length-inside : (i : ℕ) → i < vertices_of bs → LengthInside form bs i
    length-inside = whole_length_lem bs L.whole is L.small

  -- the sequences before a vertex's end
  pub vertex-inside : (v : ℕ) → v < vertices_of bs → sum (tab v (length_at bs)) + length_at bs v ≤ bytes_of bs
  vertex-inside v h = omega (arith, sum_below (vertices_of bs) v (length_at bs) h, L.lengths)

-- ---- edges

pub record ReadingEdges (bs es₀ es : List ℕ) (i : ℕ) : Type 0 where
  pub high : i ≤ edges_of bs
  pub len : length es ≡ length es₀
  pub done : EdgesRead bs i es

pub edges-start : {bs es : List ℕ} → ReadingEdges bs es es 0
edges-start = record { high = omega arith; len = refl; done = record { at = λ i h. absurd (omega arith) } }

module _ {bs es₀ es : List ℕ} {i : ℕ} (R : ReadingEdges bs es₀ es i) (h : i < edges_of bs) (room : 4 * edges_of bs ≤ length es₀) where
  pub edges_more : {es' : List ℕ} {a b s f : ℕ} → a ≡ (edge_at bs i).from → b ≡ (edge_at bs i).to → s ≡ (edge_at bs i).support → f ≡ flag_at bs i
      → es' ≡ put_edge es i a b s f → ReadingEdges bs es₀ es' (i + 1)
  edges_more {es'} {a} {b} {s} {f} qa qb qs qf is = record {
    high = omega arith;
    len = ap length is ∙ length-put es i a b s f ∙ R.len;
    done = record {
      at = λ k c. elim (ℕ_discrete k i) [
        | yes q ↦ rw q here
        | no ne ↦ ap (λ (l : List ℕ). edge_in l k) is ∙ put_other es i a b s f k ne ∙ R.done.at k (omega arith)
      ];
    };
  }
    where
      here : edge_in es' i ≡ edge_at bs i
      here =
          ap (λ (l : List ℕ). edge_in l i) is ∙ put_same es i a b s f (omega (arith, R.len))
          ∙ (λ j. record {
            from = qa j;
            to = qb j;
            support = qs j;
            is_ref = (ap flag_is_ref qf ∙ sym (is_ref-is bs i)) j;
            capped = (ap flag_is_capped qf ∙ sym (capped_is bs i)) j;
          })

pub edges-end : {bs es₀ es : List ℕ} {i m : ℕ} → ReadingEdges bs es₀ es i → m ≡ edges_of bs → m ≤ i → EdgesRead bs m es
edges-end R q h = record { at = λ k c. R.done.at k (omega arith) }

-- ---- vertices

pub record ReadingVertices (bs : List ℕ) (at : ℕ) (vs₀ vs : List ℕ) (i start : ℕ) : Type 0 where
  pub high : i ≤ vertices_of bs
  pub len : length vs ≡ length vs₀
  pub start_is : start ≡ at + sum (tab i (length_at bs))
  pub done : VerticesRead bs at i vs

pub vertices-start : {bs : List ℕ} {at : ℕ} {vs : List ℕ} → ReadingVertices bs at vs vs 0 at
vertices-start {bs} = record {
  high = omega arith;
  len = refl;
  start_is = omega (arith, sum-none (length_at bs));
  done = record { starts = λ i h. absurd (omega arith); sizes = λ i h. absurd (omega arith) };
}

module _ {bs : List ℕ} {at : ℕ} {vs₀ vs : List ℕ} {i start : ℕ} (R : ReadingVertices bs at vs₀ vs i start) (h : i < vertices_of bs) where
  -- a start is a place in the record, and so fits 32 bits
  pub start_small : Laid bs → at ≤ bytes_at (form_of bs) (vertices_of bs) (edges_of bs) → {len : ℕ} → len ≡ length_at bs i → start + len < 4294967296
  start_small L a q = omega (arith, R.start_is, q, a, vertex-inside L i h, laid-length L, L.small)

  module _ (room : 2 * vertices_of bs ≤ length vs₀) where
    pub vertices-more : {vs' : List ℕ} {len : ℕ} → len ≡ length_at bs i → vs' ≡ put_vertex vs i start len
        → ReadingVertices bs at vs₀ vs' (i + 1) (start + len)
    unfolding put_vertex
    vertices-more {vs'} {len} ql is = record {
      high = omega arith;
      len = ap length is ∙ length-set (set vs (2 * i) start) (2 * i + 1) len ∙ length-set vs (2 * i) start ∙ R.len;
      start_is = omega (arith, R.start_is, ql, sum_more i (length_at bs));
      done = record {
        starts = λ k c. ap (λ (l : List ℕ). get_or l (2 * k) 0) is ∙ get_or-set_other (set vs (2 * i) start) (2 * i + 1) (2 * k) len 0 (λ z.
            omega arith) ∙ elim (ℕ_discrete k i) [
              | yes q ↦ rw q (get_or-set_same vs (2 * i) start 0 (omega (arith, R.len)) ∙ R.start_is)
              | no ne ↦ get_or-set_other vs (2 * i) (2 * k) start 0 (λ z. ne (omega arith)) ∙ R.done.starts k (omega arith)
            ];
        sizes = λ k c. ap (λ (l : List ℕ). get_or l (2 * k + 1) 0) is ∙ elim (ℕ_discrete k i) [
          | yes q ↦ rw q (get_or-set_same (set vs (2 * i) start) (2 * i + 1) len 0 (omega (arith, R.len, length-set vs (2 * i) start)) ∙ ql)
          | no ne ↦ get_or-set_other (set vs (2 * i) start) (2 * i + 1) (2 * k + 1) len 0 (λ z. ne (omega arith))
              ∙ get_or-set_other vs (2 * i) (2 * k + 1) start 0 (λ z. omega arith) ∙ R.done.sizes k (omega arith)
        ];
      };
    }

pub vertices-end : {bs : List ℕ} {at : ℕ} {vs₀ vs : List ℕ} {i start n : ℕ} → ReadingVertices bs at vs₀ vs i start → n ≡ vertices_of bs → n ≤ i
    → VerticesRead bs at n vs
vertices-end R q h = record { starts = λ k c. R.done.starts k (omega arith); sizes = λ k c. R.done.sizes k (omega arith) }

-- ---- bytes

-- ---- the graph

module _ {bs : List ℕ} (L : Laid bs) where
  bytes_inside : bytes_at (form_of bs) (vertices_of bs) (edges_of bs) + bytes_of bs ≤ length bs
  bytes_inside = omega (arith, laid-length L)

  read-edges : {m : ℕ} {es : List ℕ} → m ≡ edges_of bs → EdgesRead bs m es → edges_in m es ≡ tab (edges_of bs) (edge_at bs)
  read-edges {m} {es} q R = tab-ext m (edge_in es) (edge_at bs) R.at ∙ ap (λ (x : ℕ). tab x (edge_at bs)) q

  read-ends : {m n : ℕ} {es : List ℕ} → m ≡ edges_of bs → n ≡ vertices_of bs → EdgesRead bs m es → EndsBelow n m es
  read-ends {m} {n} {es} qm qn R = record {
    at = λ k h. let g = L.ends k (omega arith) in (
      omega (arith, g.0, ap (λ (e : Edge). e.from) (R.at k h)),
      omega (arith, g.1, ap (λ (e : Edge). e.to) (R.at k h)),
    );
  }

  module _ {at n : ℕ} {vs : List ℕ} (q : n ≡ vertices_of bs) (R : VerticesRead bs at n vs) where
    read-within : {b : ℕ} → at + bytes_of bs ≤ b → Within b n vs
    read-within l = record { at = λ v h. omega (arith, R.starts v h, R.sizes v h, vertex-inside L v (omega arith)) }

    -- the pool's bytes from `at` on are the sequences
    module _ (p : List ℕ) (room : at + bytes_of bs ≤ length p) (B : (i : ℕ) → i < bytes_of bs
        → get_or p (at + i) 0 ≡ get_or bs (bytes_at (form_of bs) (vertices_of bs) (edges_of bs) + i) 0) where
      read-seq : (v : ℕ) → v < n → seq_in vs p v ≡ sequence_at bs v
      read-seq v h =
          let i = vertex-inside L v (omega arith) in
          rw (R.starts v h, R.sizes v h)
          (part_same bs p (sequence_start bs v) (at + sum (tab v (length_at bs))) (length_at bs v)
          (omega (arith, sequence_start-is bs v, bytes_inside)) (omega arith) (byte v i)
          ∙ sym (sequence_at-is bs v))
        where
          byte : (v : ℕ) → sum (tab v (length_at bs)) + length_at bs v ≤ bytes_of bs → (i : ℕ) → i < length_at bs v
              → get_or p (at + sum (tab v (length_at bs)) + i) 0 ≡ get_or bs (sequence_start bs v + i) 0
          byte v h i c =
              ap (λ (x : ℕ). get_or p x 0) (omega arith) ∙ B (sum (tab v (length_at bs)) + i) (omega arith)
              ∙ ap (λ (x : ℕ). get_or bs x 0) (omega (arith, sequence_start-is bs v))

      read-seqs : seqs_in n vs p ≡ (decode bs).verts
      unfolding decode
      read-seqs = tab-ext n (seq_in vs p) (sequence_at bs) read-seq ∙ ap (λ (x : ℕ). tab x (sequence_at bs)) q

  -- the header's numbers, the edges and the vertices
  pub loaded : {r : Held} {es vs : List ℕ} → r.k.0 ≡ k_of bs → r.n ≡ vertices_of bs → r.m ≡ edges_of bs
      → EdgesRead bs r.m es → {at : ℕ} → at ≡ bytes_at (form_of bs) (vertices_of bs) (edges_of bs)
      → VerticesRead bs at r.n vs → Loaded bs r es vs
  unfolding decode
  loaded {r} {es} {vs} qk qn qm E {at} at-is Q = record {
    is = λ j. record { k = qk j; verts = read-seqs qn Q bs room (λ i h. ap (λ (x : ℕ). get_or bs x 0) (omega (arith, at-is))) j; edges = read-edges qm E j };
    k = qk;
    n = qn;
    m = qm;
    within = read-within qn Q room;
    ends = read-ends qm qn E;
  }
    where
      room : at + bytes_of bs ≤ length bs
      room = omega (arith, at-is, bytes_inside)

-- the sequences in a pool
pub pooled : {bs : List ℕ} {h r : Held} {vs₀ p₀ vs p : List ℕ} → Poolable bs h vs₀ p₀ → length p ≡ length p₀
    → r.k ≡ h.k → r.n ≡ h.n → r.m ≡ h.m → r.used ≡ bytes_of bs
    → VerticesRead bs 0 h.n vs → {at : ℕ} → at ≡ bytes_at (form_of bs) (vertices_of bs) (edges_of bs) → BytesRead bs at r.used p
    → SequencesPooled bs h r vs p
pooled {bs} {h} {r} {vs = vs} {p} Y l qk qn qm qu Q {at} at-is B = record {
  is = ap (λ (x : ℕ). seqs_in x vs p) qn ∙ read-seqs Y.laid Y.n Q p (omega (arith, l, Y.p-room)) byte;
  k = qk;
  n = qn;
  m = qm;
  used = qu;
  within = rw (qn, qu) (read-within Y.laid Y.n Q (omega arith));
}
  where
    byte : (i : ℕ) → i < bytes_of bs → get_or p (0 + i) 0 ≡ get_or bs (bytes_at (form_of bs) (vertices_of bs) (edges_of bs) + i) 0
    byte i c =
        ap (λ (x : ℕ). get_or p x 0) (omega arith) ∙ B.is i (omega (arith, qu))
        ∙ ap (λ (x : ℕ). get_or bs x 0) (omega (arith, at-is))

-- the graph with its sequences there is the record's
pub pooled-graph : {bs : List ℕ} {h r : Held} {es vs vs' p' : List ℕ} → Loaded bs h es vs → SequencesPooled bs h r vs' p' → graph_of r es vs' p' ≡ decode bs
pooled-graph {h = h} {r} {es} L P = λ j. record {
  k = (ap (λ (k : KmerSize). k.0) P.k ∙ ap (λ (g : Graph). g.k) L.is) j;
  verts = P.is j;
  edges = (ap (λ (x : ℕ). edges_in x es) P.m ∙ ap (λ (g : Graph). g.edges) L.is) j;
}
