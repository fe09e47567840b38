-- A record of either kind is checked; a vertex's part of it is handed back. Assumes nothing.
use mathlib.Core.Path.{◌≡◌, refl, sym, ◌∙◌}
use mathlib.Core.Bool.{Bool, true, false, cond, ◌&&◌, ◌||◌}
use mathlib.Core.List.{List, []}
use Prim.Native.Nat.{ℕ, ◌+◌, ◌≤◌, ◌<◌}
use native.Mathlib.Omega.{arith}
use native.Mathlib.Decide.{ℕ_discrete}
use lib.ListN.{length, take, drop}
use lib.Dec.{eqb}
use borrow.Author.Tests.{eq-eqb, ne_eqb, le-leb, lt-leb}
use Rattle.defs.specs.Forms.{form_of}
use Rattle.defs.specs.SeqGraph.{vertex_sequence}
use Rattle.defs.specs.Record.{kind_of, k_of, vertices_of, length_at, sequence_start, decode}
use Rattle.defs.specs.Refusals.{both_kinds, refusal_of, layout_causes, record_refusal, doubled_edge, equal_kmers, doubled, has_cycle}
use Rattle.defs.specs.Calls.{vertex_sequence_causes, vertex_sequence_number, vertex_sequence_part}
use Rattle.laws.proofs.Walks.{by_test}
use Rattle.laws.proofs.ListLaws.{by_order}
use Rattle.form.specs.declared.Form.{Form}
use Rattle.form.specs.Coded.{form_is}
use Rattle.form.proofs.FormLaws.{limits-small}
use Rattle.record.specs.Headed.{Headed, LengthInside}
use Rattle.record.specs.Kinds.{takes_of}
use Rattle.record.specs.declared.Takes.TheVariants.{BothKinds}
use Rattle.kmer.specs.declared.KmerSize.{KmerSize}
use Rattle.std.specs.Prelude.{Result, Ok, Err}
use Rattle.refusal.specs.Refusals.{number_of_refusal}
use Rattle.refusal.specs.declared.Refusal.{Refusal}
use Rattle.refusal.proofs.RefusalLaws.{some-number}
use Rattle.record.specs.Layout.{WellFormed, LayoutOf}
use Rattle.record.proofs.Accepted.{well-formed, formed-none, formed-size, layout-number}
use Rattle.record.proofs.Fields.{sequence_at-is}
use Rattle.record.proofs.Sequences.{vertex-is, sequence-inside, length-least, length_most, formed-headed, formed-length}
use Rattle.store.specs.Store.{edges_in, seqs_in}
use Rattle.index.specs.Index.{Indexed, Indexable}
use Rattle.cycle.specs.Peel.{HasCycle}
use Rattle.memory.specs.declared.Held.{Held}
use Rattle.load.specs.Loaded.{Loadable, Loaded}
use Rattle.load.proofs.LoadLaws.{formed-laid}
use Rattle.sound.proofs.Accepted.{refused-early, refused-6, refused-7, accepted, accepted-layout}
use Rattle.sequence.specs.Part.{Part}
use Rattle.read_kmers.specs.Kmers.{Doubles}
use Rattle.accept.specs.Accept.{RoomFor, RoomToMark}
use Rattle.calls.proofs.CauseLaws.{behind-refused, behind-present, behind-absent}
use Rattle.vertex_sequence.specs.Checks.{Checkable, Checks, LoadedToCheck}
use Rattle.vertex_sequence.specs.Handed.{Handed, Placed}

-- ---- the checks behind the layout

module _ (m n : ℕ) (es vs p : List ℕ) where
  -- what is doubled, in graphs of k-mers and of sequences
  pub kmers-doubled : {kmers d : Bool} {order : List ℕ} → kmers ≡ true → Doubles m n es vs p d order → d
      ≡ (doubled_edge (edges_in m es) || (kmers && equal_kmers (seqs_in n vs p)))
  kmers-doubled t D = rw t D.is

  pub edges-doubled : {kmers d : Bool} → kmers ≡ false → d ≡ doubled_edge (edges_in m es) → d
      ≡ (doubled_edge (edges_in m es) || (kmers && equal_kmers (seqs_in n vs p)))
  edges-doubled f e = rw f (e ∙ sym (or-none (doubled_edge (edges_in m es))))
    where
      or-none : (b : Bool) → (b || false) ≡ b
      or-none true = refl
      or-none false = refl

  module _ {kmers d : Bool} (q : d ≡ (doubled_edge (edges_in m es) || (kmers && equal_kmers (seqs_in n vs p)))) where
    pub checks-6 : d ≡ true → Checks kmers m n es vs p 6
    checks-6 t = record { is = λ k. rw (sym q ∙ t) refl }

    pub checks-7 : d ≡ false → {c : Bool} → HasCycle m n es c → c ≡ true → Checks kmers m n es vs p 7
    checks-7 f C t = record { is = λ k. rw (sym q ∙ f) (rw (sym (C.is k vs p) ∙ t) refl) }

    pub checks-0 : d ≡ false → {c : Bool} → HasCycle m n es c → c ≡ false → Checks kmers m n es vs p 0
    checks-0 f C t = record { is = λ k. rw (sym q ∙ f) (rw (sym (C.is k vs p) ∙ t) refl) }

-- ---- the record

module _ (bs : List ℕ) {r : Result KmerSize Refusal} (e : LayoutOf (refusal_of (layout_causes (takes_of BothKinds) bs)) (k_of bs) r) where
  pub number-early : {n : Refusal} → r ≡ Err n → number_of_refusal n ≡ record_refusal both_kinds bs
  unfolding takes_of
  number-early {n} f =
      sym (refused-early both_kinds bs (sym (layout-number both_kinds bs e f))
      (by_order 1 (number_of_refusal n) (λ b. b) (λ b. absurd (some-number n (omega arith)))))

  module _ {k : KmerSize} (ok : r ≡ Ok k) where
    layout-none : refusal_of (layout_causes both_kinds bs) ≡ 0
    unfolding takes_of
    layout-none = formed-none both_kinds bs e ok

    pub number-loadable : {es vs heads nexts order scratch place : List ℕ} → RoomToMark bs es vs heads nexts order scratch place
        → (k.0 ≡ k_of bs) × Loadable bs es vs
    number-loadable R =
        let formed = well-formed both_kinds bs layout-none in
        let room = R.reading.room formed in (
          formed-size (takes_of BothKinds) bs e ok,
          record { laid = formed-laid formed; es-room = room.es-room; vs-room = room.vs-room },
        )

    pub loaded-to-check : {h : Held} {es vs heads nexts order scratch place : List ℕ} → Loaded bs h es vs
        → RoomToMark bs es vs heads nexts order scratch place → LoadedToCheck bs h es vs heads nexts order scratch place
    loaded-to-check L R = record { none = layout-none; loaded = L; room = R }

module _ {bs : List ℕ} {h : Held} {es vs heads nexts order scratch place : List ℕ} (H : LoadedToCheck bs h es vs heads nexts order scratch place) where
  formed : WellFormed bs
  formed = well-formed both_kinds bs H.none

  room : RoomFor bs es vs heads nexts order scratch
  room = H.room.reading.room formed

  n-small : h.n < 4294967296
  n-small = omega (arith, H.loaded.n, formed.vertices, (limits-small (form_of bs)).vertices)

  m-small : h.m < 4294967296
  m-small = omega (arith, H.loaded.m, formed.edges, (limits-small (form_of bs)).edges)

  -- its kind can be read
  pub loaded-long : 32 ≤ length bs
  loaded-long = omega (arith, length-least bs formed)

  pub loaded-indexable : Indexable h.m h.n es heads nexts
  loaded-indexable = record {
    room = omega (arith, H.loaded.m, room.es-room);
    heads-room = omega (arith, H.loaded.n, room.heads-room);
    nexts-room = omega (arith, H.loaded.m, room.nexts-room);
    small = m-small;
    ends = H.loaded.ends;
  }

  pub loaded-checkable : {heads' nexts' : List ℕ} → Indexed h.m h.n es heads' nexts'
      → Checkable h.m h.n es vs bs heads' nexts' order scratch place
  loaded-checkable I =
      let n = H.loaded.n in
      record {
        indexed = I;
        markable = record { room = omega (arith, n, room.mp-room); small = n-small };
        sortable = record {
          order-room = omega (arith, n, room.nodes-room);
          scratch-room = omega (arith, n, room.mp-room);
          small = n-small;
          keys = λ v c. record { room = omega (arith, n, room.vs-room); inside = H.loaded.within.at v c };
        };
        peelable = record {
          degrees-room = omega (arith, n, room.mp-room);
          queue-room = omega (arith, n, H.room.marks-room formed);
          small = n-small;
        };
        few = m-small;
      }

  number_is : {kmers : Bool} {n : ℕ} → kmers ≡ eqb (kind_of bs) 0 → Checks kmers h.m h.n es vs bs n → n
      ≡ cond (doubled bs) 6 (cond (has_cycle (decode bs)) 7 0)
  unfolding doubled
  number_is q C =
      let is = H.loaded.is in
      C.is h.k.0 ∙ (λ i. cond (doubled_edge (is i).edges || (q i && equal_kmers (is i).verts)) 6 (cond (has_cycle (is i)) 7 0))

  by_tests : cond (doubled bs) 6 (cond (has_cycle (decode bs)) 7 0) ≡ record_refusal both_kinds bs
  by_tests = by_test (doubled bs)
      (λ d. rw d (sym (refused-6 both_kinds bs H.none d)))
      (λ d. by_test (has_cycle (decode bs))
      (λ c. rw (d, c) (sym (refused-7 both_kinds bs H.none d c)))
      (λ c. rw (d, c) (sym (accepted both_kinds bs H.none d c))))

  pub number-late : {kmers : Bool} {n : ℕ} → kmers ≡ eqb (kind_of bs) 0 → Checks kmers h.m h.n es vs bs n → n ≡ record_refusal both_kinds bs
  number-late q C = number_is q C ∙ by_tests

-- ---- the vertex

module _ (bs : List ℕ) (v : ℕ) where
  pub vertex-refused : {r : ℕ} → r ≡ record_refusal both_kinds bs → (r ≡ 0 → ⊥) → r ≡ vertex_sequence_number bs v
  unfolding vertex_sequence_number vertex_sequence_causes
  vertex-refused e o = sym (behind-refused both_kinds bs 9 _ (sym e) o)

  module _ (z : record_refusal both_kinds bs ≡ 0) where
    pub vertex-9 : vertices_of bs ≤ v → 9 ≡ vertex_sequence_number bs v
    unfolding vertex_sequence_number vertex_sequence_causes
    vertex-9 l = sym (behind-present both_kinds bs 9 _ z (le-leb (vertices_of bs) v l))

    pub vertex-0 : v < vertices_of bs → 0 ≡ vertex_sequence_number bs v
    unfolding vertex_sequence_number vertex_sequence_causes
    vertex-0 l = sym (behind-absent both_kinds bs 9 _ z (lt-leb (vertices_of bs) v l))

  -- an accepted call's record and vertex
  pub record-zero : {r : ℕ} → r ≡ record_refusal both_kinds bs → r ≡ 0 → record_refusal both_kinds bs ≡ 0
  record-zero e z = sym e ∙ z

  pub record-headed : record_refusal both_kinds bs ≡ 0 → {form : Form} → form_is form ≡ form_of bs → Headed form bs
  record-headed z = formed-headed (accepted-layout both_kinds bs z)

  pub vertex-known : vertex_sequence_number bs v ≡ 0 → WellFormed bs × (v < vertices_of bs)
  vertex-known z = elim (ℕ_discrete (record_refusal both_kinds bs) 0) [
    | no ne ↦ absurd (ne (vertex-refused refl ne ∙ z))
    | yes y ↦ by_order (vertices_of bs) v (λ l. absurd (nine (vertex-9 y l ∙ z))) (λ l. (accepted-layout both_kinds bs y, l))
  ]
    where
      nine : ◌≡◌ {A = ℕ} 9 0 → ⊥
      nine q = omega (arith, q)

  part_none : {told : ℕ} → told ≡ vertex_sequence_number bs v → (told ≡ 0 → ⊥) → [] ≡ vertex_sequence_part bs v
  unfolding vertex_sequence_part
  part_none e o = rw (ne_eqb (vertex_sequence_number bs v) 0 (λ q. o (e ∙ q)), vertex_sequence_part) refl

  part-some : vertex_sequence_number bs v ≡ 0 → vertex_sequence (decode bs) v ≡ vertex_sequence_part bs v
  unfolding vertex_sequence_part
  part-some z = rw (eq-eqb (vertex_sequence_number bs v) 0 z, vertex_sequence_part) refl

  module _ {told : ℕ} (e : told ≡ vertex_sequence_number bs v) where
    pub handed-none : (told ≡ 0 → ⊥) → Handed bs v told []
    handed-none o = record { number = e; part = part_none e o }

    pub handed-part : told ≡ 0 → {r : List ℕ} → Part bs v r → Handed bs v told r
    handed-part z P = record { number = e; part = P.vertex ∙ part-some (sym e ∙ z) }

    pub known : told ≡ 0 → WellFormed bs × (v < vertices_of bs)
    known z = vertex-known (sym e ∙ z)

    pub placed-none : (told ≡ 0 → ⊥) → Placed bs v told record { offset = 0; length = 0 }
    placed-none o = record { number = e; offset = rw (ne_eqb told 0 o) refl; size = rw (ne_eqb told 0 o) refl; part = part_none e o }

    pub placed-inside : told ≡ 0 → {form : Form} → form_is form ≡ form_of bs → LengthInside form bs v
    placed-inside z is = let k = known z in formed-length k.0 is v k.1

    pub placed-part : (z : told ≡ 0) {at len : ℕ} → at ≡ sequence_start bs v → len ≡ length_at bs v → Placed bs v told record { offset = at; length = len }
    placed-part z {at} {len} a b = record {
      number = e;
      offset = rw (eq-eqb told 0 z) a;
      size = rw (eq-eqb told 0 z) b;
      part = (λ i. take (b i) (drop (a i) bs)) ∙ sym (sequence_at-is bs v) ∙ sym (vertex-is bs v (known z).1) ∙ part-some (sym e ∙ z);
    }

    pub placed-small : (z : told ≡ 0) → sequence_start bs v + length_at bs v < 4294967296
    placed-small z =
        let W = (known z).0 in
        omega (arith, sequence-inside bs v (known z).1 W, length_most bs W)
