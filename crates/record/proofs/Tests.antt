-- The tests of the refusals 1 to 5, by the facts that the code's branches hand over.
-- Assumes nothing.
use Prim.Native.Nat.{ℕ, ◌+◌, ◌*◌, ◌≤◌, ◌<◌}
use mathlib.Core.Path.{◌≡◌, refl, sym, ap, ◌∙◌}
use mathlib.Core.Bool.{Bool, true, false, cond, not, ◌&&◌, ◌||◌}
use mathlib.Core.List.{List, [], ◌∷◌}
use native.Mathlib.Omega.{arith}
use lib.Dec.{eqb, ltb, leb}
use lib.ListN.{length, get_or, take}
use borrow.Author.Tests.{lt-ltb, le-ltb, le-leb, lt-leb, eq-eqb, ne_eqb, ltb-false, eqb-true, not-false}
use Rattle.defs.specs.Lists.{tab_from, tab, sum, same_list, any_of, up_from}
use Rattle.defs.specs.Forms.{sgr1, sgr2, mark, form_of, lengths_at, limits}
use Rattle.defs.specs.Record.{kind_of, status_of, k_of, vertices_of, edges_of, bytes_of, lengths_offset_of, edges_offset_of, bytes_offset_of, whole_of}
use Rattle.defs.specs.Record.{edges_at, bytes_at, whole_length, length_at, edge_at, flag_at}
use Rattle.defs.specs.Refusals.{Cause, Takes, refusal_of, layout_causes, takes_kind, other_length, wrong_mark, past_limit, layout_disagrees, bad_edge, any_bad_edge}
use Rattle.laws.proofs.ListLaws.{clash, or-false}
use Rattle.tabs.proofs.Tabs.{take-tab}
use Rattle.form.specs.declared.Form.{Form}
use Rattle.form.specs.declared.Form.TheVariants.{Sgr1, Sgr2}
use Rattle.form.specs.Coded.{form_is}
use Rattle.form.proofs.FormLaws.{between, sizes, is-1, is-2}
use Rattle.kmer.specs.Size.{k_past_limit}
use Rattle.kmer.specs.declared.KmerSize.{KmerSize}
use Rattle.record.specs.declared.Takes as declared
use Rattle.record.specs.declared.Takes.TheVariants.{KmerOnly, SequenceOnly, BothKinds}
use Rattle.record.specs.Headed.{Headed}
use Rattle.record.specs.Kinds.{takes_of}
use Rattle.std.specs.Prelude.{Ok, Err}
use Rattle.refusal.specs.Refusals.{number_of_refusal}
use Rattle.refusal.specs.declared.Refusal.{Refusal}
use Rattle.refusal.specs.declared.Refusal.TheVariants.{OtherLength, WrongMark, PastLimit, LayoutDisagrees, BadEdge}
use Rattle.record.specs.Layout.{count_past_limit, other_kmer_length, offsets_disagree, LayoutOf}

or_assoc : (a b c : Bool) → (a || (b || c)) ≡ ((a || b) || c)
or_assoc true b c = refl
or_assoc false b c = refl

-- 1, of a record whose header has h bytes
module _ (bs : List ℕ) {h : ℕ} (header : h ≡ lengths_at (form_of bs)) where
  pub short : length bs < h → true ≡ other_length bs
  unfolding other_length
  short l = simp (lt-ltb (length bs) (lengths_at (form_of bs)) (omega arith))

  pub stated : (x : ℕ) → h ≤ length bs → x ≡ whole_of bs → not (eqb x (length bs)) ≡ other_length bs
  unfolding other_length
  stated x l e = simp (le-ltb (length bs) (lengths_at (form_of bs)) (omega arith), e)

-- 2
-- a record is of the form SGR2 only if it begins so
by-mark : (t : Bool) → elim t [ true ↦ sgr2 | false ↦ sgr1 ] ≡ sgr2 → t ≡ true
by-mark true e = refl
by-mark false e = let z : ◌≡◌ {A = ℕ} 0 1 = cc in absurd (omega arith)

pub begins-sgr2 : (bs : List ℕ) → form_of bs ≡ sgr2 → same_list (take 4 bs) (mark sgr2) ≡ true
unfolding form_of
begins-sgr2 bs e = by-mark (same_list (take 4 bs) (mark sgr2)) e

module _ (form : Form) (bs : List ℕ) (is : form_is form ≡ form_of bs) where
  -- the mark as it is compared: letter by letter, or known from the form
  pub mark-1 : {r : Bool} → form ≡ Sgr1 → r ≡ same_list (take 4 bs) (83 ∷ 71 ∷ 82 ∷ 49 ∷ []) → r ≡ same_list (take 4 bs) (mark (form_of bs))
  unfolding mark
  mark-1 f e = e ∙ ap (λ x. same_list (take 4 bs) (mark x)) (sym (is-1 form f) ∙ is)

  pub mark-2 : form ≡ Sgr2 → true ≡ same_list (take 4 bs) (mark (form_of bs))
  mark-2 f =
      let g : form_of bs ≡ sgr2 = sym is ∙ is-2 form f in
      sym (begins-sgr2 bs g) ∙ ap (λ x. same_list (take 4 bs) (mark x)) (sym g)

module _ (t : Takes) (bs : List ℕ) where
  pub other-mark : same_list (take 4 bs) (mark (form_of bs)) ≡ false → true ≡ wrong_mark t bs
  unfolding wrong_mark
  other-mark m = simp m

  module _ (m : same_list (take 4 bs) (mark (form_of bs)) ≡ true) where
    pub other-kind : takes_kind t (kind_of bs) ≡ false → true ≡ wrong_mark t bs
    unfolding wrong_mark
    other-kind k = simp (m, k)

    module _ (k : takes_kind t (kind_of bs) ≡ true) where
      pub other-status : 2 < status_of bs → true ≡ wrong_mark t bs
      unfolding wrong_mark
      other-status s = simp (m, k, lt-ltb 2 (status_of bs) s)

      pub kmer-status : status_of bs ≤ 2 → kind_of bs ≡ 0 → not (eqb (status_of bs) 0) ≡ wrong_mark t bs
      unfolding wrong_mark
      kmer-status s z = simp (m, k, le-ltb 2 (status_of bs) s, eq-eqb (kind_of bs) 0 z)

      pub sequence-status : status_of bs ≤ 2 → (kind_of bs ≡ 0 → ⊥) → false ≡ wrong_mark t bs
      unfolding wrong_mark
      sequence-status s z = simp (m, k, le-ltb 2 (status_of bs) s, ne_eqb (kind_of bs) 0 z)

-- 3
module _ (bs : List ℕ) where
  limit_is : past_limit bs ≡ (k_past_limit (k_of bs) || count_past_limit bs)
  unfolding past_limit k_past_limit count_past_limit
  limit_is = or_assoc (ltb (k_of bs) 2) (ltb 128 (k_of bs)) _

  pub k-past : k_past_limit (k_of bs) ≡ true → past_limit bs ≡ true
  k-past k = simp (limit_is, k)

  pub count_past : {c : Bool} → k_past_limit (k_of bs) ≡ false → count_past_limit bs ≡ c → past_limit bs ≡ c
  count_past k e = simp (limit_is, k, e)

  pub vertices-past : (limits (form_of bs)).vertices < vertices_of bs → true ≡ count_past_limit bs
  unfolding count_past_limit
  vertices-past v = simp (lt-ltb (limits (form_of bs)).vertices (vertices_of bs) v)

  module _ (v : vertices_of bs ≤ (limits (form_of bs)).vertices) where
    pub edges-past : (limits (form_of bs)).edges < edges_of bs → true ≡ count_past_limit bs
    unfolding count_past_limit
    edges-past e = simp (le-ltb (limits (form_of bs)).vertices (vertices_of bs) v, lt-ltb (limits (form_of bs)).edges (edges_of bs) e)

    pub bytes_past : edges_of bs ≤ (limits (form_of bs)).edges → kind_of bs ≡ 1 → ltb (limits (form_of bs)).bytes (bytes_of bs) ≡ count_past_limit bs
    unfolding count_past_limit
    bytes_past e o = simp (le-ltb (limits (form_of bs)).vertices (vertices_of bs) v, le-ltb (limits (form_of bs)).edges (edges_of bs) e, eq-eqb (kind_of bs) 1 o)

    pub kmers-within : edges_of bs ≤ (limits (form_of bs)).edges → (kind_of bs ≡ 1 → ⊥) → false ≡ count_past_limit bs
    unfolding count_past_limit
    kmers-within e o = simp (le-ltb (limits (form_of bs)).vertices (vertices_of bs) v, le-ltb (limits (form_of bs)).edges (edges_of bs) e, ne_eqb (kind_of bs) 1 o)

-- 4
or-four : (a b c d e : Bool) → (a || (b || (c || (d || e)))) ≡ ((a || (b || (c || d))) || e)
or-four true b c d e = refl
or-four false true c d e = refl
or-four false false true d e = refl
or-four false false false d e = refl

-- the offsets x, y and z as read, of a header of h bytes, edges at o and bytes at p
module _ (bs : List ℕ) {x h : ℕ} (x-is : x ≡ lengths_offset_of bs) (h-is : h ≡ lengths_at (form_of bs)) where
  pub lengths-elsewhere : (x ≡ h → ⊥) → true ≡ offsets_disagree bs
  unfolding offsets_disagree
  lengths-elsewhere n = simp (ne_eqb (lengths_offset_of bs) (lengths_at (form_of bs)) (λ q. n (x-is ∙ q ∙ sym h-is)))

  module _ (x-good : x ≡ h) {y o : ℕ} (y-is : y ≡ edges_offset_of bs) (o_is : o ≡ edges_at (form_of bs) (vertices_of bs)) where
    lengths-good : eqb (lengths_offset_of bs) (lengths_at (form_of bs)) ≡ true
    lengths-good = eq-eqb (lengths_offset_of bs) (lengths_at (form_of bs)) (sym x-is ∙ x-good ∙ h-is)

    pub edges-elsewhere : (y ≡ o → ⊥) → true ≡ offsets_disagree bs
    unfolding offsets_disagree
    edges-elsewhere n =
        simp (lengths-good, ne_eqb (edges_offset_of bs) (edges_at (form_of bs) (vertices_of bs)) (λ q. n (y-is ∙ q ∙ sym o_is)))

    module _ (y-good : y ≡ o) {z p : ℕ} (z-is : z ≡ bytes_offset_of bs) (p-is : p ≡ bytes_at (form_of bs) (vertices_of bs) (edges_of bs)) where
      edges-good : eqb (edges_offset_of bs) (edges_at (form_of bs) (vertices_of bs)) ≡ true
      edges-good = eq-eqb (edges_offset_of bs) (edges_at (form_of bs) (vertices_of bs)) (sym y-is ∙ y-good ∙ o_is)

      pub bytes-elsewhere : (z ≡ p → ⊥) → true ≡ offsets_disagree bs
      unfolding offsets_disagree
      bytes-elsewhere n =
          simp (
            lengths-good,
            edges-good,
            ne_eqb (bytes_offset_of bs) (bytes_at (form_of bs) (vertices_of bs) (edges_of bs)) (λ q. n (z-is ∙ q ∙ sym p-is)),
          )

      pub offsets-right : z ≡ p → {b : ℕ} → b ≡ bytes_of bs → not (eqb (length bs) (p + b)) ≡ offsets_disagree bs
      unfolding offsets_disagree
      offsets-right z-good {b} b-is =
          let bytes_good = eq-eqb (bytes_offset_of bs) (bytes_at (form_of bs) (vertices_of bs) (edges_of bs)) (sym z-is ∙ z-good ∙ p-is) in
          let whole : p + b ≡ whole_length (form_of bs) (vertices_of bs) (edges_of bs) (bytes_of bs) =
          omega (arith, p-is, b-is, (between (form_of bs) (vertices_of bs) (edges_of bs) (bytes_of bs)).whole_is) in
          simp (lengths-good, edges-good, bytes_good, whole)

module _ (bs : List ℕ) where
  layout_is : layout_disagrees bs
      ≡ (offsets_disagree bs
      || (not (eqb (sum (tab (vertices_of bs) (length_at bs))) (bytes_of bs)) || (eqb (kind_of bs) 0 && any_of (other_kmer_length bs) (up_from 0 (vertices_of bs)))))
  unfolding layout_disagrees offsets_disagree
  layout_is =
      or-four
      (not (eqb (lengths_offset_of bs) (lengths_at (form_of bs))))
      (not (eqb (edges_offset_of bs) (edges_at (form_of bs) (vertices_of bs))))
      (not (eqb (bytes_offset_of bs) (bytes_at (form_of bs) (vertices_of bs) (edges_of bs))))
      (not (eqb (length bs) (whole_length (form_of bs) (vertices_of bs) (edges_of bs) (bytes_of bs))))
      (not (eqb (sum (tab (vertices_of bs) (length_at bs))) (bytes_of bs)) || (eqb (kind_of bs) 0 && any_of (other_kmer_length bs) (up_from 0 (vertices_of bs))))

  pub offsets-wrong : offsets_disagree bs ≡ true → true ≡ layout_disagrees bs
  offsets-wrong o = simp (layout_is, o)

  -- the sum x that was taken over v lengths, and the b bytes
  module _ (o : offsets_disagree bs ≡ false) {x v b : ℕ} (x-is : x ≡ sum (tab v (length_at bs))) (v-is : v ≡ vertices_of bs) (b-is : b ≡ bytes_of bs) where
    total-is : x ≡ sum (tab (vertices_of bs) (length_at bs))
    total-is = x-is ∙ ap (λ (n : ℕ). sum (tab n (length_at bs))) v-is

    pub other-sum : (x ≡ b → ⊥) → true ≡ layout_disagrees bs
    other-sum h = simp (layout_is, o, ne_eqb (sum (tab (vertices_of bs) (length_at bs))) (bytes_of bs) (λ q. h (total-is ∙ q ∙ sym b-is)))

    module _ (s : x ≡ b) where
      sum-right : eqb (sum (tab (vertices_of bs) (length_at bs))) (bytes_of bs) ≡ true
      sum-right = eq-eqb _ _ (sym total-is ∙ s ∙ b-is)

      pub kmer-lengths : {r : Bool} → kind_of bs ≡ 0 → r ≡ any_of (other_kmer_length bs) (up_from 0 v) → r ≡ layout_disagrees bs
      kmer-lengths z r-is =
          r-is
          ∙ ap (λ (n : ℕ). any_of (other_kmer_length bs) (up_from 0 n)) v-is
          ∙ simp (layout_is, o, sum-right, eq-eqb (kind_of bs) 0 z)

      pub free-lengths : (kind_of bs ≡ 0 → ⊥) → false ≡ layout_disagrees bs
      free-lengths z = simp (layout_is, o, sum-right, ne_eqb (kind_of bs) 0 z)

-- the parts of a disagreement that is not there
agreed : (a b c d : Bool) → (not a || (not b || (not c || not d))) ≡ false → (a ≡ true) × (b ≡ true) × (c ≡ true) × (d ≡ true)
agreed true true true true g = (refl, refl, refl, refl)
agreed true true true false g = clash refl g
agreed true true false d g = clash refl g
agreed true false c d g = clash refl g
agreed false b c d g = clash refl g

module _ (bs : List ℕ) (h : offsets_disagree bs ≡ false) where
  offset-parts : (eqb (lengths_offset_of bs) (lengths_at (form_of bs)) ≡ true) × (eqb (edges_offset_of bs) (edges_at (form_of bs) (vertices_of bs)) ≡ true)
      × (eqb (bytes_offset_of bs) (bytes_at (form_of bs) (vertices_of bs) (edges_of bs)) ≡ true)
      × (eqb (length bs) (whole_length (form_of bs) (vertices_of bs) (edges_of bs) (bytes_of bs)) ≡ true)
  unfolding offsets_disagree
  offset-parts = agreed _ _ _ _ h

  pub lengths-offset : lengths_offset_of bs ≡ lengths_at (form_of bs)
  lengths-offset = eqb-true _ _ offset-parts.0

  pub edges_offset : edges_offset_of bs ≡ edges_at (form_of bs) (vertices_of bs)
  edges_offset = eqb-true _ _ offset-parts.1

  pub bytes-offset : bytes_offset_of bs ≡ bytes_at (form_of bs) (vertices_of bs) (edges_of bs)
  bytes-offset = eqb-true _ _ offset-parts.2

  pub whole_is : length bs ≡ whole_length (form_of bs) (vertices_of bs) (edges_of bs) (bytes_of bs)
  whole_is = eqb-true _ _ offset-parts.3

  -- where the lengths and the edges end, so that they can be read
  pub lengths-inside : {v : ℕ} → v ≡ vertices_of bs → edges_at (form_of bs) v ≤ length bs
  lengths-inside {v} v-is =
      let B = between (form_of bs) (vertices_of bs) (edges_of bs) (bytes_of bs) in
      omega (arith, whole_is, B.whole_is, B.bytes-least, ap (edges_at (form_of bs)) v-is)

  pub edges-inside : bytes_at (form_of bs) (vertices_of bs) (edges_of bs) ≤ length bs
  edges-inside = omega (arith, whole_is, (between (form_of bs) (vertices_of bs) (edges_of bs) (bytes_of bs)).whole_is)

module _ (bs : List ℕ) (h : layout_disagrees bs ≡ false) where
  pub offsets-agree : offsets_disagree bs ≡ false
  offsets-agree = (or-false (offsets_disagree bs) _ (sym (layout_is bs) ∙ h)).0

  lengths-agree : (not (eqb (sum (tab (vertices_of bs) (length_at bs))) (bytes_of bs)) ≡ false)
      × ((eqb (kind_of bs) 0 && any_of (other_kmer_length bs) (up_from 0 (vertices_of bs))) ≡ false)
  lengths-agree = or-false _ _ (or-false (offsets_disagree bs) _ (sym (layout_is bs) ∙ h)).1

  pub sum_is : sum (tab (vertices_of bs) (length_at bs)) ≡ bytes_of bs
  sum_is = eqb-true _ _ (not-false _ lengths-agree.0)

  pub kmers-are : kind_of bs ≡ 0 → any_of (other_kmer_length bs) (up_from 0 (vertices_of bs)) ≡ false
  kmers-are z = rw (eq-eqb (kind_of bs) 0 z) at lengths-agree.1

-- 5
module _ (bs : List ℕ) (i : ℕ) where
  pub from_past : vertices_of bs ≤ (edge_at bs i).from → true ≡ bad_edge bs i
  unfolding bad_edge
  from_past h = simp (le-leb (vertices_of bs) (edge_at bs i).from h)

  module _ (f : (edge_at bs i).from < vertices_of bs) where
    pub to-past : vertices_of bs ≤ (edge_at bs i).to → true ≡ bad_edge bs i
    unfolding bad_edge
    to-past h = simp (lt-leb (vertices_of bs) (edge_at bs i).from f, le-leb (vertices_of bs) (edge_at bs i).to h)

    pub ends-below : (edge_at bs i).to < vertices_of bs → ltb 3 (flag_at bs i) ≡ bad_edge bs i
    unfolding bad_edge
    ends-below h = simp (lt-leb (vertices_of bs) (edge_at bs i).from f, lt-leb (vertices_of bs) (edge_at bs i).to h)

pub any-bad-is : (bs : List ℕ) → any_bad_edge bs ≡ any_of (bad_edge bs) (up_from 0 (edges_of bs))
unfolding any_bad_edge
any-bad-is bs = refl

-- the first cause present
either : (b : Bool) (m n : ℕ) → elim b [ true ↦ m | false ↦ n ] ≡ cond b m n
either true m n = refl
either false m n = refl

refusal-cons : (n : ℕ) (b : Bool) (cs : List Cause) → refusal_of (record { number = n; present = b } ∷ cs) ≡ cond b n (refusal_of cs)
unfolding refusal_of
refusal-cons n b cs = either b n (refusal_of cs)

refusal-nil : refusal_of [] ≡ 0
unfolding refusal_of
refusal-nil = refl

module _ (t : Takes) (bs : List ℕ) where
  first-five : refusal_of (layout_causes t bs)
      ≡ cond (other_length bs) 1 (cond (wrong_mark t bs) 2 (cond (past_limit bs) 3 (cond (layout_disagrees bs) 4 (cond (any_bad_edge bs) 5 0))))
  unfolding layout_causes
  first-five = simp (refusal-cons, refusal-nil)

  -- what the check gives where it refuses
  refused-as : (r : Refusal) → number_of_refusal r ≡ refusal_of (layout_causes t bs) → LayoutOf (refusal_of (layout_causes t bs)) (k_of bs) (Err r)
  refused-as r e = record {
    number = e;
    size = λ f. cc;
  }

  pub refusal-1 : other_length bs ≡ true → LayoutOf (refusal_of (layout_causes t bs)) (k_of bs) (Err OtherLength)
  refusal-1 a = refused-as OtherLength (simp (first-five, a))

  module _ (a : other_length bs ≡ false) where
    pub refusal-2 : wrong_mark t bs ≡ true → LayoutOf (refusal_of (layout_causes t bs)) (k_of bs) (Err WrongMark)
    refusal-2 b = refused-as WrongMark (simp (first-five, a, b))

    module _ (b : wrong_mark t bs ≡ false) where
      pub refusal-3 : past_limit bs ≡ true → LayoutOf (refusal_of (layout_causes t bs)) (k_of bs) (Err PastLimit)
      refusal-3 c = refused-as PastLimit (simp (first-five, a, b, c))

      module _ (c : past_limit bs ≡ false) where
        pub refusal-4 : layout_disagrees bs ≡ true → LayoutOf (refusal_of (layout_causes t bs)) (k_of bs) (Err LayoutDisagrees)
        refusal-4 d = refused-as LayoutDisagrees (simp (first-five, a, b, c, d))

        module _ (d : layout_disagrees bs ≡ false) where
          pub refusal-5 : any_bad_edge bs ≡ true → LayoutOf (refusal_of (layout_causes t bs)) (k_of bs) (Err BadEdge)
          refusal-5 e = refused-as BadEdge (simp (first-five, a, b, c, d, e))

          pub accepted : {k : KmerSize} → k.0 ≡ k_of bs → any_bad_edge bs ≡ false → LayoutOf (refusal_of (layout_causes t bs)) (k_of bs) (Ok k)
          accepted {k = k} q e = record {
            number = simp (first-five, a, b, c, d, e);
            size = λ {s} f. let g : k ≡ s = cc in ap (λ (x : KmerSize). x.0) (sym g) ∙ q;
          }

  not_there : (b : Bool) (m n : ℕ) → 0 < m → cond b m n ≡ 0 → (b ≡ false) × (n ≡ 0)
  not_there true m n h e = absurd (omega arith)
  not_there false m n h e = (refl, e)

  -- an accepted record has none of the five causes
  pub no-cause : refusal_of (layout_causes t bs) ≡ 0
      → (other_length bs ≡ false) × (wrong_mark t bs ≡ false) × (past_limit bs ≡ false) × (layout_disagrees bs ≡ false) × (any_bad_edge bs ≡ false)
  no-cause h =
      let a = not_there (other_length bs) 1 _ (omega arith) (sym first-five ∙ h) in
      let b = not_there (wrong_mark t bs) 2 _ (omega arith) a.1 in
      let c = not_there (past_limit bs) 3 _ (omega arith) b.1 in
      let d = not_there (layout_disagrees bs) 4 _ (omega arith) c.1 in
      let e = not_there (any_bad_edge bs) 5 _ (omega arith) d.1 in
      (a.0, b.0, c.0, d.0, e.0)

-- the kinds that a call takes, one by one
module _ (t : declared.Takes) (n : ℕ) where
  pub takes-kmer : t ≡ KmerOnly → eqb n 0 ≡ takes_kind (takes_of t) n
  unfolding takes_kind takes_of
  takes-kmer e = rw e

  pub takes-sequence : t ≡ SequenceOnly → eqb n 1 ≡ takes_kind (takes_of t) n
  unfolding takes_kind takes_of
  takes-sequence e = rw e

  pub takes-both : t ≡ BothKinds → leb n 1 ≡ takes_kind (takes_of t) n
  unfolding takes_kind takes_of
  takes-both e = rw e

-- a length is compared with k
module _ (bs : List ℕ) (i x k : ℕ) (length-is : x ≡ length_at bs i) (k-is : k ≡ k_of bs) where
  pub length-other : (x ≡ k → ⊥) → other_kmer_length bs i ≡ true
  length-other h = simp (ne_eqb (length_at bs i) (k_of bs) (λ e. h (length-is ∙ e ∙ sym k-is)))

  pub length-k : x ≡ k → other_kmer_length bs i ≡ false
  length-k h = simp (eq-eqb (length_at bs i) (k_of bs) (sym length-is ∙ h ∙ k-is))

-- what is not refused with 1 has a header
header-whole : (bs : List ℕ) → other_length bs ≡ false → lengths_at (form_of bs) ≤ length bs
unfolding other_length
header-whole bs h = ltb-false (length bs) (lengths_at (form_of bs)) (or-false (ltb (length bs) (lengths_at (form_of bs))) _ h).0

pub headed : {form : Form} (bs : List ℕ) → form_is form ≡ form_of bs → other_length bs ≡ false → Headed form bs
headed bs is h = record { is = is; long = header-whole bs h }

pub long-enough : (bs : List ℕ) → other_length bs ≡ false → 32 ≤ length bs
long-enough bs h = omega (arith, header-whole bs h, (sizes (form_of bs)).header-least)
