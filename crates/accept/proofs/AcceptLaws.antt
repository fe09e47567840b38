-- Reading a record, check by check. Assumes nothing.
use mathlib.Core.Path.{◌≡◌, refl, sym, ap, ◌∙◌, subst}
use mathlib.Core.Bool.{Bool, true, false, ◌&&◌, ◌||◌}
use mathlib.Core.List.{List}
use Prim.Native.Nat.{ℕ, ◌≤◌}
use native.Mathlib.Omega.{arith}
use lib.ListN.{length}
use lib.Dec.{eqb}
use borrow.Author.Tests.{ne_eqb}
use Rattle.defs.specs.Forms.{form_of}
use Rattle.defs.specs.Record.{kind_of, k_of, decode}
use Rattle.defs.specs.Refusals.{sequence_only, refusal_of, layout_causes, record_refusal, doubled_edge, equal_kmers, doubled, has_cycle}
use Rattle.laws.proofs.ListLaws.{by_order}
use Rattle.store.specs.Store.{edges_in}
use Rattle.index.specs.Index.{Indexable}
use Rattle.memory.specs.declared.Held.{Held}
use Rattle.form.proofs.FormLaws.{limits-small}
use Rattle.record.specs.Kinds.{takes_of}
use Rattle.record.specs.declared.Takes.TheVariants.{SequenceOnly}
use Rattle.kmer.specs.declared.KmerSize.{KmerSize}
use Rattle.std.specs.Prelude.{Result, Ok, Err}
use Rattle.refusal.specs.Refusals.{number_of_refusal, refused_by}
use Rattle.refusal.specs.declared.Refusal.{Refusal}
use Rattle.refusal.specs.declared.Refusal.TheVariants as refusal
use Rattle.refusal.proofs.RefusalLaws.{some-number, refused-number, made-number}
use Rattle.record.specs.Layout.{WellFormed, LayoutOf}
use Rattle.record.proofs.Accepted.{well-formed, sequence-kind, formed-none, formed-size, layout-number}
use Rattle.load.specs.Loaded.{Loadable, Loaded}
use Rattle.load.proofs.LoadLaws.{formed-laid}
use Rattle.doubled.specs.Doubled.{Markable}
use Rattle.cycle.specs.Peel.{Peelable, HasCycle}
use Rattle.sound.proofs.Accepted.{refused-early, refused-6, refused-7, accepted}
use Rattle.accept.specs.Accept.{RoomFor, RoomToRead, ReadAs}

-- what a caller learns: no cause is there, or the first one's number
module _ {bs : List ℕ} {r : Result Held Refusal} {es vs : List ℕ} (A : ReadAs bs r es vs) where
  pub read_none : {h : Held} → r ≡ Ok h → record_refusal sequence_only bs ≡ 0
  read_none e = sym A.number ∙ made-number e

  pub read_refusal : {n : Refusal} → r ≡ Err n → record_refusal sequence_only bs ≡ number_of_refusal n
  read_refusal e = sym A.number ∙ refused-number e

module _ (bs : List ℕ) where
  refused_as : (n : Refusal) → number_of_refusal n ≡ record_refusal sequence_only bs → {es vs : List ℕ} → ReadAs bs (Err n) es vs
  refused_as n q = record { number = q; loaded = λ h e. cc }

  pub read-refused : {r : Result KmerSize Refusal} {n : Refusal} {es vs : List ℕ}
      → LayoutOf (refusal_of (layout_causes (takes_of SequenceOnly) bs)) (k_of bs) r → r ≡ Err n → ReadAs bs (Err n) es vs
  unfolding takes_of
  read-refused {n = n} l f =
      refused_as n
      (sym (refused-early sequence_only bs (sym (layout-number sequence_only bs l f))
      (by_order 1 (number_of_refusal n) (λ b. b) (λ b. absurd (some-number n (omega arith))))))

  module _ (layout : refusal_of (layout_causes sequence_only bs) ≡ 0) {es vs heads nexts nodes mp : List ℕ}
      (Y : RoomToRead bs es vs heads nexts nodes mp) where
    formed : WellFormed bs
    formed = well-formed sequence_only bs layout

    R : RoomFor bs es vs heads nexts nodes mp
    R = Y.room formed

    pub read-loadable : Loadable bs es vs
    read-loadable = record { laid = formed-laid formed; es-room = R.es-room; vs-room = R.vs-room }

    module _ {h : Held} {es' vs' : List ℕ} (L : Loaded bs h es' vs') where
      n-small : h.n ≤ 32768
      n-small = omega (arith, L.n, formed.vertices, (limits-small (form_of bs)).vertices)

      m-small : h.m ≤ 65536
      m-small = omega (arith, L.m, formed.edges, (limits-small (form_of bs)).edges)

      pub read-indexable : length es' ≡ length es → Indexable h.m h.n es' heads nexts
      read-indexable l = record {
        room = omega (arith, l, L.m, R.es-room);
        heads-room = omega (arith, L.n, R.heads-room);
        nexts-room = omega (arith, L.m, R.nexts-room);
        small = omega (arith, m-small);
        ends = L.ends;
      }

      pub read-markable : Markable h.n mp
      read-markable = record { room = omega (arith, L.n, R.mp-room); small = omega (arith, n-small) }

      pub read-peelable : {mp' : List ℕ} → length mp' ≡ length mp → Peelable h.n mp' nodes
      read-peelable l = record {
        degrees-room = omega (arith, l, L.n, R.mp-room);
        queue-room = omega (arith, L.n, R.nodes-room);
        small = omega (arith, n-small);
      }

      doubled-is : doubled bs ≡ doubled_edge (edges_in h.m es')
      unfolding doubled
      doubled-is = (λ j. doubled_edge (sym L.is j).edges || (eqb (kind_of bs) 0 && equal_kmers (decode bs).verts))
          ∙ rw (ne_eqb (kind_of bs) 0 (λ q. omega (arith, sequence-kind bs layout))) (or-false _)
        where
          or-false : (b : Bool) → b || false ≡ b
          or-false true = refl
          or-false false = refl

      pub read-6 : {d : Bool} → d ≡ doubled_edge (edges_in h.m es') → d ≡ true → {es₂ vs₂ : List ℕ} → ReadAs bs (Err refusal.Doubled) es₂ vs₂
      read-6 a t = refused_as refusal.Doubled (sym (refused-6 sequence_only bs layout (doubled-is ∙ sym a ∙ t)))

      module _ {d : Bool} (a : d ≡ doubled_edge (edges_in h.m es')) (t : d ≡ false) {c : Bool} (C : HasCycle h.m h.n es' c) where
        cycle-is : has_cycle (decode bs) ≡ c
        cycle-is = ap has_cycle (sym L.is) ∙ sym (C.is h.k.0 vs' bs)

        pub read-7 : c ≡ true → {es₂ vs₂ : List ℕ} → ReadAs bs (Err refusal.HasCycle) es₂ vs₂
        read-7 s = refused_as refusal.HasCycle (sym (refused-7 sequence_only bs layout (doubled-is ∙ sym a ∙ t) (cycle-is ∙ s)))

        pub read-0 : c ≡ false → ReadAs bs (Ok h) es' vs'
        read-0 s = record {
          number = sym (accepted sequence_only bs layout (doubled-is ∙ sym a ∙ t) (cycle-is ∙ s));
          loaded = λ g e. let same : h ≡ g = cc in subst (λ (x : Held). Loaded bs x es' vs') same L;
        }

-- the layout that was checked
module _ (bs : List ℕ) {r : Result KmerSize Refusal} (l : LayoutOf (refusal_of (layout_causes (takes_of SequenceOnly) bs)) (k_of bs) r) where
  pub layout-none : {k : KmerSize} → r ≡ Ok k → refusal_of (layout_causes sequence_only bs) ≡ 0
  unfolding takes_of
  layout-none f = formed-none sequence_only bs l f

  pub layout-size : {k : KmerSize} → r ≡ Ok k → k.0 ≡ k_of bs
  layout-size f = formed-size (takes_of SequenceOnly) bs l f
