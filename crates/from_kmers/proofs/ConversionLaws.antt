-- Conversion, step by step. Assumes nothing.
use mathlib.Core.Path.{◌≡◌, refl, sym, ap, subst, ◌∙◌}
use mathlib.Core.Bool.{false}
use mathlib.Core.List.Memᴰ
use mathlib.Core.List.{List, [], ◌∷◌}
use Prim.Native.Nat.{ℕ, ◌+◌, ◌*◌, ◌≤◌, ◌<◌}
use native.Mathlib.Omega.{arith}
use native.Mathlib.Decide.{ℕ_discrete}
use lib.ListN.{length, get_or}
use borrow.Author.Tests.{lt-ltb, le-ltb, ltb-false}
use Rattle.defs.specs.Lists.{all_of}
use Rattle.defs.specs.SeqGraph.{Edge, Graph}
use Rattle.defs.specs.Simplify.{sequence_bytes}
use Rattle.defs.specs.Forms.{Form, form_of, limits}
use Rattle.defs.specs.Record.{decode}
use Rattle.defs.specs.Refusals.{refusal_of, NonePresent, kmer_only, edge_without_overlap, record_refusal}
use Rattle.defs.specs.Refusals.{layout_causes, doubled_cause, overlap_cause, cycle_cause, record_causes}
use Rattle.defs.specs.Assembly.{from_assembly_graph}
use Rattle.defs.specs.Calls.{bytes_cause, conversion_causes}
use Rattle.laws.proofs.ListLaws.{clash, by_order}
use Rattle.laws.proofs.Causes.{CausesNumbered, numbers-above, refusal-nil, refusal-there, refusal-absent, refusal-later, refusal-earlier, refusal-front}
use Rattle.laws.proofs.Causes.{none_left, none_right, none_both, none-refuses, refusal-none}
use Rattle.tabs.proofs.Tabs.{get_or-tab, length-tab}
use Rattle.tabs.proofs.SumTabs.{sum-most}
use Rattle.store.specs.Store.{edge_in, graph_in, Within}
use Rattle.pool.specs.Pool.{bytes_in}
use Rattle.pool.proofs.PoolLaws.{bytes_below}
use Rattle.memory.specs.Memory.{graph_of}
use Rattle.memory.specs.declared.Held.{Held}
use Rattle.form.proofs.FormLaws.{between, SmallLimits, limits-small, LimitsFit, limits-fit}
use Rattle.record.proofs.Accepted.{well-formed}
use Rattle.record.specs.Layout.{WellFormed}
use Rattle.sound.specs.Alike.{no_edge, SameEnds}
use Rattle.sound.proofs.Accepted.{same-doubled, same-equal}
use Rattle.kmer_order.proofs.EqualLaws.{same-kmers}
use Rattle.convert.specs.Convert.{Trimmed, Separate, EdgesSorted}
use Rattle.convert.proofs.CopyLaws.{converted}
use Rattle.write_record.specs.Written.{Measured}
use Rattle.write_record.proofs.WriteLaws.{bytes-are}
use Rattle.calls.specs.Sending.{Sendable}
use Rattle.accept.specs.Accept.{RoomFor}
use Rattle.std.specs.Prelude.{Result, Ok, Err}
use Rattle.refusal.specs.Refusals.{number_of_refusal}
use Rattle.refusal.specs.declared.Refusal.{Refusal}
use Rattle.refusal.specs.declared.Refusal.TheVariants as refusal
use Rattle.refusal.proofs.RefusalLaws.{some-number, refused-number, made-number}
use Rattle.read_kmers.specs.Kmers.{kmer_causes, overlapping_causes, HoldsKmers, KmersRead}
use Rattle.from_kmers.specs.Conversion.{RoomToConvert, ConvertedAs, ConvertibleKmers, KmersConverted}

-- ---- the causes

module _ (bs : List ℕ) where
  overlapping-numbered : CausesNumbered (overlapping_causes bs)
  unfolding layout_causes all_of
  overlapping-numbered = numbers-above (overlapping_causes bs) refl

  pub conversion-numbered : CausesNumbered (conversion_causes bs)
  unfolding conversion_causes layout_causes all_of
  conversion-numbered = numbers-above (conversion_causes bs) refl

  early : {i : ℕ} → refusal_of (overlapping_causes bs) ≡ i → (i ≡ 0 → ⊥) → refusal_of (conversion_causes bs) ≡ i
  unfolding conversion_causes layout_causes
  early e o = refusal-earlier (overlapping_causes bs) (bytes_cause bs ∷ []) e o

  module _ (z : refusal_of (overlapping_causes bs) ≡ 0) where
    later : refusal_of (conversion_causes bs) ≡ refusal_of (bytes_cause bs ∷ [])
    unfolding conversion_causes layout_causes
    later = refusal-later (overlapping_causes bs) (bytes_cause bs ∷ []) overlapping-numbered z

    too_long : (limits (form_of bs)).bytes < sequence_bytes (from_assembly_graph (decode bs)).verts → refusal_of (conversion_causes bs) ≡ 8
    too_long l = later ∙ refusal-there (bytes_cause bs) [] (lt-ltb (limits (form_of bs)).bytes (sequence_bytes (from_assembly_graph (decode bs)).verts) l)

    no-cause : sequence_bytes (from_assembly_graph (decode bs)).verts ≤ (limits (form_of bs)).bytes → refusal_of (conversion_causes bs) ≡ 0
    no-cause l = later ∙ refusal-absent (bytes_cause bs) [] (le-ltb (limits (form_of bs)).bytes (sequence_bytes (from_assembly_graph (decode bs)).verts) l) ∙ refusal-nil

    -- the layout is that of a k-mer graph
    layout-none : refusal_of (layout_causes kmer_only bs) ≡ 0
    layout-none = refusal-front (layout_causes kmer_only bs) (doubled_cause bs ∷ overlap_cause bs ∷ cycle_cause bs ∷ []) z

  -- where no cause of conversion is present, none of the record's is, the k-mers overlap and the converted graph is small
  module _ (z : refusal_of (conversion_causes bs) ≡ 0) where
    absent : NonePresent (conversion_causes bs)
    absent = refusal-none (conversion_causes bs) conversion-numbered z

    behind : NonePresent (overlap_cause bs ∷ cycle_cause bs ∷ bytes_cause bs ∷ [])
    unfolding conversion_causes layout_causes
    behind = none_right (kmer_causes bs) (overlap_cause bs ∷ cycle_cause bs ∷ bytes_cause bs ∷ []) absent

    pub none-early : record_refusal kmer_only bs ≡ 0
    unfolding conversion_causes record_refusal record_causes layout_causes
    none-early =
        none-refuses (record_causes kmer_only bs)
        (none_both (kmer_causes bs) (cycle_cause bs ∷ []) (none_left (kmer_causes bs) (overlap_cause bs ∷ cycle_cause bs ∷ bytes_cause bs ∷ []) absent)
        (none_left (cycle_cause bs ∷ []) (bytes_cause bs ∷ []) (none_right (overlap_cause bs ∷ []) (cycle_cause bs ∷ bytes_cause bs ∷ []) behind)))

    pub all-overlap : edge_without_overlap (decode bs) ≡ false
    all-overlap = behind.absent (overlap_cause bs) (Memᴰ.head refl)

    pub none-late : sequence_bytes (from_assembly_graph (decode bs)).verts ≤ (limits (form_of bs)).bytes
    none-late = ltb-false (limits (form_of bs)).bytes _ (behind.absent (bytes_cause bs) (Memᴰ.tail (Memᴰ.tail (Memᴰ.head refl))))

-- ---- no k-mer and no edge is there twice

module _ {bs : List ℕ} {h : Held} {es vs heads nexts order : List ℕ} (H : HoldsKmers bs h es vs heads nexts order) where
  same_ends : (a b : ℕ) → a < b → b < h.m → get_or es (4 * a) 0 ≡ get_or es (4 * b) 0 → get_or es (4 * a + 1) 0 ≡ get_or es (4 * b + 1) 0
      → SameEnds (graph_of h es vs bs)
  same_ends a b o l qf qt =
      let ea = get_or-tab h.m (edge_in es) a no_edge (omega arith) in
      let eb = get_or-tab h.m (edge_in es) b no_edge l in
      record {
        first = a;
        second = b;
        order = o;
        below = omega (arith, length-tab h.m (edge_in es));
        from = ap (λ (e : Edge). e.from) ea ∙ qf ∙ sym (ap (λ (e : Edge). e.from) eb);
        to = ap (λ (e : Edge). e.to) ea ∙ qt ∙ sym (ap (λ (e : Edge). e.to) eb);
      }

  never-same : {X : Type 0} (a b : ℕ) → a < b → b < h.m → get_or es (4 * a) 0 ≡ get_or es (4 * b) 0 → get_or es (4 * a + 1) 0 ≡ get_or es (4 * b + 1) 0 → X
  never-same a b o l qf qt = clash (same-doubled (graph_of h es vs bs) (same_ends a b o l qf qt)) H.single

  separate : Separate h.m h.n es vs bs
  separate = record {
    kmers = λ u v a b q. elim (ℕ_discrete u v) [
      | yes e ↦ e
      | no ne ↦ clash (same-equal (graph_in 0 h.n 0 [] vs bs) (same-kmers H.ordered u v a b ne q)) H.distinct
    ];
    edges = λ a b la lb qf qt. elim (ℕ_discrete a b) [
      | yes e ↦ e
      | no ne ↦ by_order a b (λ o. never-same a b (omega arith) lb qf qt) (λ o. never-same b a o la (sym qf) (sym qt))
    ];
  }

refused_as : (bs : List ℕ) (n : Refusal) → number_of_refusal n ≡ refusal_of (conversion_causes bs) → {es vs : List ℕ} → ConvertedAs bs (Err n) es vs
refused_as bs n q = record {
  number = q;
  is = λ h e. cc;
  sendable = λ h e. cc;
}

-- ---- a held graph is converted

module _ {h : Held} {es vs heads nexts order scratch place sorted : List ℕ} (C : ConvertibleKmers h es vs heads nexts order scratch place sorted)
    {vs' : List ℕ} (T : Trimmed h.m h.n es vs vs') where
  pub countable : length vs' ≡ length vs → (2 * h.n ≤ length vs') × (bytes_in h.n vs' < 4294967296)
  countable l =
      let most = sum-most 128 h.n (λ (v : ℕ). get_or vs' (2 * v + 1) 0) (λ v b. omega (arith, T.shorter v b, C.sizes v b)) in
      (omega (arith, C.trimmable.vs-room), omega (arith, C.vertices, most))

  module _ {sorted' : List ℕ} (S : EdgesSorted h.m h.n es order sorted') where
    module _ {bs : List ℕ} (H : HoldsKmers bs h es vs heads nexts order) where
      inside : Within (length bs) h.n vs'
      inside = T.within (length bs) H.loaded.within

      graph_is : graph_of h sorted' vs' bs ≡ from_assembly_graph (decode bs)
      graph_is = converted h.k.0 bs H.loaded.within (separate H) H.ordered T S ∙ ap from_assembly_graph H.loaded.is

      bytes-is : sequence_bytes (from_assembly_graph (decode bs)).verts ≡ bytes_in h.n vs'
      bytes-is = ap (λ (g : Graph). sequence_bytes g.verts) (sym graph_is) ∙ bytes-are (form_of bs) 0 h.k.0 h.n h.m sorted' vs' bs inside

      sendable : bytes_in h.n vs' ≤ (limits (form_of bs)).bytes → length vs' ≡ length vs → length sorted' ≡ length sorted
          → Sendable (form_of bs) 0 h sorted' vs' bs
      sendable l lv ls = record {
        measured = measured;
        within = inside;
        writable = λ out enough. record {
          status-fits = omega arith;
          n-fits = omega (arith, H.vertices, fit.vertices, most.answer-vertices);
          m-fits = omega (arith, H.edges, fit.edges, most.answer-edges);
          lengths-fit = λ v c. omega (arith, bytes_below h.n v vs' c, fit.bytes);
          ends = S.ends;
          es-room = omega (arith, C.convertible.out-room);
          within = inside;
          measured = measured;
          room = enough;
        };
      }
        where
          most : SmallLimits (form_of bs)
          most = limits-small (form_of bs)

          fit : LimitsFit (form_of bs)
          fit = limits-fit (form_of bs)

          measured : Measured (form_of bs) h vs'
          measured = record {
            vs-room = omega (arith, C.trimmable.vs-room);
            small =
                let B = between (form_of bs) h.n h.m (bytes_in h.n vs') in
                omega (
                  arith,
                  H.vertices,
                  H.edges,
                  most.vertices,
                  most.edges,
                  most.bytes,
                  B.whole_is,
                  B.edges_most,
                  B.bytes_most,
                );
          }

    -- b bytes, of which there may be c
    module _ {b c : ℕ} (q : b ≡ bytes_in h.n vs') {f : Form} (limit : c ≡ (limits f).bytes) where
      pub over : c < b → {es₂ vs₂ : List ℕ} → KmersConverted f h es vs heads nexts order (Err refusal.PastBytes) es₂ vs₂
      over l = record {
        is = λ bs e none H.
            refused_as bs refusal.PastBytes (sym (too_long bs none (omega (arith, limit, bytes-is H, ap (λ (g : Form). (limits g).bytes) e))));
      }

      pub done : b ≤ c → length vs' ≡ length vs → length sorted' ≡ length sorted → KmersConverted f h es vs heads nexts order (Ok h) sorted' vs'
      done l lv ls = record {
        is = λ bs form none H. let same = ap (λ (g : Form). (limits g).bytes) form in record {
          number = sym (no-cause bs none (omega (arith, limit, same, bytes-is H)));
          is = λ g e. let same-held : h ≡ g = cc in subst (λ (x : Held). graph_of x sorted' vs' bs ≡ from_assembly_graph (decode bs)) same-held (graph_is H);
          sendable = λ g e. let same-held : h ≡ g = cc in subst (λ (x : Held). Sendable (form_of bs) 0 x sorted' vs' bs) same-held (sendable H (omega (arith, limit, same)) lv ls);
        };
      }

-- ---- a record that was read

module _ {bs : List ℕ} {r : Result Held Refusal} {es vs heads nexts order : List ℕ} (A : KmersRead (overlapping_causes bs) bs r es vs heads nexts order) where
  pub refused : {n : Refusal} {es₂ vs₂ : List ℕ} → r ≡ Err n → ConvertedAs bs (Err n) es₂ vs₂
  refused {n} f = refused_as bs n (sym (early bs (sym A.number ∙ refused-number f) (some-number n)))

  module _ {h : Held} (ok : r ≡ Ok h) where
    none : refusal_of (overlapping_causes bs) ≡ 0
    none = sym A.number ∙ made-number ok

    formed : WellFormed bs
    formed = well-formed kmer_only bs (layout-none bs none)

    pub converted_as : {f : Form} {x : Result Held Refusal} {sorted vs' : List ℕ} → f ≡ form_of bs → KmersConverted f h es vs heads nexts order x sorted vs'
        → ConvertedAs bs x sorted vs'
    converted_as e K = K.is bs e none (A.holds h ok)

    module _ {scratch place sorted : List ℕ} (R : RoomToConvert bs es vs heads nexts order scratch place sorted) where
      room : RoomFor bs es vs heads nexts order scratch
      room = R.reading.reading.room formed

      held : HoldsKmers bs h es vs heads nexts order
      held = A.holds h ok

      pub convertible : ConvertibleKmers h es vs heads nexts order scratch place sorted
      convertible = record {
        convertible = record {
          numbers = held.ordered.numbers;
          ends = held.loaded.ends;
          es-room = omega (arith, held.loaded.m, room.es-room);
          order-edges = omega (arith, held.loaded.m, R.order-room formed);
          scratch-edges = omega (arith, held.loaded.m, R.scratch-room formed);
          place-room = omega (arith, held.loaded.n, R.reading.marks-room formed);
          out-room = omega (arith, held.loaded.m, R.sorted-room formed);
          few-vertices = omega (arith, held.vertices, (limits-small (form_of bs)).vertices);
          few-edges = omega (arith, held.edges, (limits-small (form_of bs)).edges);
        };
        trimmable = record {
          vs-room = omega (arith, held.loaded.n, room.vs-room);
          whole = λ v b. omega (arith, held.sizes v b, held.k-least);
          small = λ v b. omega (arith, held.loaded.within.at v b, held.short);
        };
        indexed = held.indexed;
        vertices = omega (arith, held.vertices, (limits-small (form_of bs)).vertices);
        sizes = λ v b. omega (arith, held.sizes v b, held.k-most);
      }
