-- Reading a k-mer record, check by check. Assumes nothing.
use mathlib.Core.Path.{◌≡◌, refl, sym, ap, subst, ◌∙◌}
use mathlib.Core.Bool.{Bool, true, false, ◌&&◌, ◌||◌}
use mathlib.Core.List.{List, [], ◌∷◌}
use Prim.Native.Nat.{ℕ, ◌+◌, ◌*◌, ◌≤◌, ◌<◌}
use native.Mathlib.Omega.{arith}
use lib.ListN.{length, get_or}
use lib.Dec.{eqb}
use borrow.Author.Tests.{eq-eqb}
use Rattle.defs.specs.Lists.{all_of}
use Rattle.defs.specs.SeqGraph as seq
use Rattle.defs.specs.SeqGraph.{vertex_sequence}
use Rattle.defs.specs.Forms.{form_of, limits}
use Rattle.defs.specs.Record.{kind_of, k_of, vertices_of, length_at, decode}
use Rattle.defs.specs.Refusals.{Cause, refusal_of, kmer_only, doubled_edge, equal_kmers, doubled, has_cycle, edge_without_overlap}
use Rattle.defs.specs.Refusals.{layout_causes, doubled_cause, overlap_cause, cycle_cause}
use Rattle.laws.proofs.ListLaws.{clash, or-false}
use Rattle.laws.proofs.Causes.{CausesNumbered, numbers-above, refusal-nil, refusal-there, refusal-absent, refusal-later, refusal-earlier, refusal-front}
use Rattle.tabs.proofs.Tabs.{get_or-tab}
use Rattle.store.specs.Store.{edges_in, seq_in, seqs_in}
use Rattle.store.proofs.VertexLaws.{part-long}
use Rattle.index.specs.Index.{Indexed, Indexable}
use Rattle.memory.specs.declared.Held.{Held}
use Rattle.form.proofs.FormLaws.{limits-small}
use Rattle.record.specs.Kinds.{takes_of}
use Rattle.record.specs.declared.Takes.TheVariants.{KmerOnly}
use Rattle.kmer.specs.declared.KmerSize.{KmerSize}
use Rattle.std.specs.Prelude.{Result, Ok, Err}
use Rattle.refusal.specs.Refusals.{number_of_refusal, refused_by}
use Rattle.refusal.specs.declared.Refusal.{Refusal}
use Rattle.refusal.specs.declared.Refusal.TheVariants as refusal
use Rattle.refusal.proofs.RefusalLaws.{some-number, refused-number, made-number}
use Rattle.record.specs.Layout.{WellFormed, LayoutOf}
use Rattle.record.proofs.Accepted.{well-formed, kmer-kind, formed-none, formed-size, layout-number}
use Rattle.record.proofs.Sequences.{vertex-is, length-sequence, length_most}
use Rattle.load.specs.Loaded.{Loadable, Loaded}
use Rattle.load.proofs.LoadLaws.{formed-laid}
use Rattle.doubled.specs.Doubled.{Markable}
use Rattle.cycle.specs.Peel.{Peelable, HasCycle}
use Rattle.sound.proofs.Accepted.{layout-numbered}
use Rattle.overlap.specs.Overlap.{KmerRecord}
use Rattle.sort.specs.Sort.{Sortable}
use Rattle.kmer_order.specs.Order.{ReadableSequence, KmerOrder}
use Rattle.accept.specs.Accept.{RoomFor, RoomToRead, RoomToMark}
use Rattle.read_kmers.specs.Kmers.{kmer_causes, overlapping_causes, Doubles, HoldsKmers, KmersRead}

-- ---- doubled edges and k-mers

module _ {m n : ℕ} {es vs p : List ℕ} {d : Bool} {order : List ℕ} (q : d ≡ doubled_edge (edges_in m es)) where
  pub edges-double : d ≡ true → Doubles m n es vs p true order
  edges-double t = record { is = rw (sym q ∙ t); ordered = λ f. clash refl f }

  pub kmers-double : {e : Bool} → d ≡ false → KmerOrder n vs p order → e ≡ equal_kmers (seqs_in n vs p) → Doubles m n es vs p e order
  kmers-double f K r = record { is = rw (sym q ∙ f) r; ordered = λ _. K }

-- ---- the record

refused_as : {causes : List Cause} {bs : List ℕ} (n : Refusal) → number_of_refusal n ≡ refusal_of causes → {es vs heads nexts order : List ℕ}
    → KmersRead causes bs (Err n) es vs heads nexts order
refused_as n q = record { number = q; holds = λ h e. cc }

module _ (bs : List ℕ) where
  pub read-refused : {r : Result KmerSize Refusal} {n : Refusal} {es vs heads nexts order : List ℕ}
      → LayoutOf (refusal_of (layout_causes (takes_of KmerOnly) bs)) (k_of bs) r
      → r ≡ Err n → KmersRead (kmer_causes bs) bs (Err n) es vs heads nexts order
  unfolding takes_of
  read-refused {n = n} l f =
      refused_as n
      (sym (refusal-earlier (layout_causes kmer_only bs) (doubled_cause bs ∷ []) (sym (layout-number kmer_only bs l f)) (some-number n)))

  module _ (layout : refusal_of (layout_causes kmer_only bs) ≡ 0) {es vs heads nexts order scratch : List ℕ}
      (Y : RoomToRead bs es vs heads nexts order scratch) where
    formed : WellFormed bs
    formed = well-formed kmer_only bs layout

    R : RoomFor bs es vs heads nexts order scratch
    R = Y.room formed

    later : refusal_of (kmer_causes bs) ≡ refusal_of (doubled_cause bs ∷ [])
    later = refusal-later (layout_causes kmer_only bs) (doubled_cause bs ∷ []) (layout-numbered kmer_only bs) layout

    size_is : (i : ℕ) → i < vertices_of bs → length_at bs i ≡ k_of bs
    size_is = formed.kmers (kmer-kind bs layout)

    pub read-loadable : Loadable bs es vs
    read-loadable = record { laid = formed-laid formed; es-room = R.es-room; vs-room = R.vs-room }

    module _ {h : Held} {es' vs' : List ℕ} (L : Loaded bs h es' vs') where
      n-most : h.n ≤ (limits (form_of bs)).vertices
      n-most = omega (arith, L.n, formed.vertices)

      m-most : h.m ≤ (limits (form_of bs)).edges
      m-most = omega (arith, L.m, formed.edges)

      n-small : h.n ≤ 32768
      n-small = omega (arith, n-most, (limits-small (form_of bs)).vertices)

      m-small : h.m ≤ 65536
      m-small = omega (arith, m-most, (limits-small (form_of bs)).edges)

      pub read-indexable : length es' ≡ length es → Indexable h.m h.n es' heads nexts
      read-indexable l = record {
        room = omega (arith, l, L.m, R.es-room);
        heads-room = omega (arith, L.n, R.heads-room);
        nexts-room = omega (arith, L.m, R.nexts-room);
        small = omega (arith, m-small);
        ends = L.ends;
      }

      pub read-markable : Markable h.n scratch
      read-markable = record { room = omega (arith, L.n, R.mp-room); small = omega (arith, n-small) }

      pub read-sortable : length vs' ≡ length vs → Sortable (ReadableSequence vs' bs) h.n order scratch
      read-sortable l = record {
        order-room = omega (arith, L.n, R.nodes-room);
        scratch-room = omega (arith, L.n, R.mp-room);
        small = omega (arith, n-small);
        keys = λ v c. record { room = omega (arith, l, L.n, R.vs-room); inside = L.within.at v c };
      }

      doubled-is : doubled bs ≡ (doubled_edge (edges_in h.m es') || equal_kmers (seqs_in h.n vs' bs))
      unfolding doubled
      doubled-is = (λ j. doubled_edge (sym L.is j).edges || (eqb (kind_of bs) 0 && equal_kmers (sym L.is j).verts))
          ∙ rw (eq-eqb (kind_of bs) 0 (kmer-kind bs layout))

      -- a vertex's k-mer has k bytes
      size-held : (v : ℕ) → v < h.n → get_or vs' (2 * v + 1) 0 ≡ h.k.0
      size-held v b =
          let below : v < vertices_of bs = omega (arith, L.n) in
          sym (part-long bs (get_or vs' (2 * v) 0) (get_or vs' (2 * v + 1) 0) (L.within.at v b))
          ∙ ap length (sequence-is ∙ vertex-is bs v below) ∙ length-sequence bs v below formed ∙ size_is v below ∙ sym L.k
        where
          sequence-is : seq_in vs' bs v ≡ vertex_sequence (decode bs) v
          sequence-is = unfold vertex_sequence in (sym (get_or-tab h.n (seq_in vs' bs) v [] b) ∙ ap (λ (g : seq.Graph). get_or g.verts v []) L.is)

      module _ {d : Bool} {order' : List ℕ} (D : Doubles h.m h.n es' vs' bs d order') where
        pub read-6 : d ≡ true → {es₂ vs₂ heads₂ nexts₂ order₂ : List ℕ} → KmersRead (kmer_causes bs) bs (Err refusal.Doubled) es₂ vs₂ heads₂ nexts₂ order₂
        read-6 t = refused_as refusal.Doubled (sym (later ∙ refusal-there (doubled_cause bs) [] (doubled-is ∙ sym D.is ∙ t)))

        pub read-0 : d ≡ false → {heads' nexts' : List ℕ} → Indexed h.m h.n es' heads' nexts'
            → KmersRead (kmer_causes bs) bs (Ok h) es' vs' heads' nexts' order'
        read-0 t {heads'} {nexts'} I =
            let apart = or-false (doubled_edge (edges_in h.m es')) (equal_kmers (seqs_in h.n vs' bs)) (sym D.is ∙ t) in
            let held : HoldsKmers bs h es' vs' heads' nexts' order' = record {
              loaded = L;
              single = apart.0;
              distinct = apart.1;
              k-least = omega (arith, L.k, formed.k-least);
              k-most = omega (arith, L.k, formed.k-most);
              vertices = n-most;
              edges = m-most;
              short = length_most bs formed;
              sizes = size-held;
              indexed = I;
              ordered = D.ordered t;
            } in
            record {
              number = sym (later ∙ refusal-absent (doubled_cause bs) [] (doubled-is ∙ sym D.is ∙ t) ∙ refusal-nil);
              holds = λ g e. let same : h ≡ g = cc in subst (λ (x : Held). HoldsKmers bs x es' vs' heads' nexts' order') same held;
            }

-- the layout that was checked
module _ (bs : List ℕ) {r : Result KmerSize Refusal} (l : LayoutOf (refusal_of (layout_causes (takes_of KmerOnly) bs)) (k_of bs) r) where
  pub layout-none : {k : KmerSize} → r ≡ Ok k → refusal_of (layout_causes kmer_only bs) ≡ 0
  unfolding takes_of
  layout-none f = formed-none kmer_only bs l f

  pub layout-size : {k : KmerSize} → r ≡ Ok k → k.0 ≡ k_of bs
  layout-size f = formed-size (takes_of KmerOnly) bs l f

-- ---- behind 6

module _ (bs : List ℕ) where
  kmers-numbered : CausesNumbered (kmer_causes bs)
  unfolding layout_causes all_of
  kmers-numbered = numbers-above (kmer_causes bs) refl

  kmers-formed : refusal_of (kmer_causes bs) ≡ 0 → refusal_of (layout_causes kmer_only bs) ≡ 0
  kmers-formed z = refusal-front (layout_causes kmer_only bs) (doubled_cause bs ∷ []) z

  -- 15 and 7 behind the others
  abbrev behind : List Cause
  behind = overlap_cause bs ∷ cycle_cause bs ∷ []

  overlapping-early : {i : ℕ} → refusal_of (kmer_causes bs) ≡ i → (i ≡ 0 → ⊥) → refusal_of (overlapping_causes bs) ≡ i
  unfolding layout_causes
  overlapping-early e o = refusal-earlier (kmer_causes bs) behind e o

  overlapping-late : refusal_of (kmer_causes bs) ≡ 0 → refusal_of (overlapping_causes bs) ≡ refusal_of behind
  unfolding layout_causes
  overlapping-late z = refusal-later (kmer_causes bs) behind kmers-numbered z

module _ {bs : List ℕ} {r : Result Held Refusal} {es vs heads nexts order : List ℕ} (A : KmersRead (kmer_causes bs) bs r es vs heads nexts order) where
  pub overlapping-refused : {n : Refusal} {es₂ vs₂ heads₂ nexts₂ order₂ : List ℕ} → r ≡ Err n
      → KmersRead (overlapping_causes bs) bs (Err n) es₂ vs₂ heads₂ nexts₂ order₂
  overlapping-refused {n} f = refused_as n (sym (overlapping-early bs (sym A.number ∙ refused-number f) (some-number n)))

  module _ {h : Held} (ok : r ≡ Ok h) where
    held : HoldsKmers bs h es vs heads nexts order
    held = A.holds h ok

    none : refusal_of (kmer_causes bs) ≡ 0
    none = sym A.number ∙ made-number ok

    pub kmer-record : KmerRecord bs h.k
    unfolding decode
    kmer-record = record {
      formed = well-formed kmer_only bs (kmers-formed bs none);
      kind = kmer-kind bs (kmers-formed bs none);
      size = ap (λ (g : seq.Graph). g.k) held.loaded.is;
    }

    pub cycle-checkable : {scratch scratch' place : List ℕ} {es₀ vs₀ heads₀ nexts₀ order₀ : List ℕ}
        → RoomToMark bs es₀ vs₀ heads₀ nexts₀ order₀ scratch place → length scratch' ≡ length scratch
        → Indexed h.m h.n es heads nexts × ((h.m < 4294967296) × Peelable h.n scratch' place)
    cycle-checkable Y l =
        let K = kmer-record in
        let R = Y.reading.room K.formed in (
          held.indexed,
          (
            omega (arith, held.edges, (limits-small (form_of bs)).edges),
            record {
              degrees-room = omega (arith, l, held.loaded.n, R.mp-room);
              queue-room = omega (arith, held.loaded.n, Y.marks-room K.formed);
              small = omega (arith, held.vertices, (limits-small (form_of bs)).vertices);
            },
          ),
        )

    module _ {o : Bool} (O : o ≡ edge_without_overlap (decode bs)) where
      pub read-15 : o ≡ true → {es₂ vs₂ heads₂ nexts₂ order₂ : List ℕ}
          → KmersRead (overlapping_causes bs) bs (Err refusal.NoOverlap) es₂ vs₂ heads₂ nexts₂ order₂
      read-15 t = refused_as refusal.NoOverlap (sym (overlapping-late bs none ∙ refusal-there (overlap_cause bs) _ (sym O ∙ t)))

      module _ (f : o ≡ false) {c : Bool} (C : HasCycle h.m h.n es c) where
        later-7 : refusal_of (overlapping_causes bs) ≡ refusal_of (cycle_cause bs ∷ [])
        later-7 = overlapping-late bs none ∙ refusal-absent (overlap_cause bs) (cycle_cause bs ∷ []) (sym O ∙ f)

        cycle-is : has_cycle (decode bs) ≡ c
        cycle-is = ap has_cycle (sym held.loaded.is) ∙ sym (C.is h.k.0 vs bs)

        pub read-7 : c ≡ true → {es₂ vs₂ heads₂ nexts₂ order₂ : List ℕ}
            → KmersRead (overlapping_causes bs) bs (Err refusal.HasCycle) es₂ vs₂ heads₂ nexts₂ order₂
        read-7 t = refused_as refusal.HasCycle (sym (later-7 ∙ refusal-there (cycle_cause bs) [] (cycle-is ∙ t)))

        pub read_whole : c ≡ false → KmersRead (overlapping_causes bs) bs (Ok h) es vs heads nexts order
        read_whole t = record {
          number = sym (later-7 ∙ refusal-absent (cycle_cause bs) [] (cycle-is ∙ t) ∙ refusal-nil);
          holds = λ g e. let same : h ≡ g = cc in subst (λ (x : Held). HoldsKmers bs x es vs heads nexts order) same held;
        }
