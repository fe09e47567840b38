-- An accepted record's graph is sound, without doubled edges and within the limits; 6 and 7 mean what they say, both ways.
-- Assumes nothing.
use mathlib.Core.Path.{◌≡◌, refl, sym, ap, ◌∙◌}
use mathlib.Core.Logic.{◌⊎◌, inl, inr, ⊎_elim}
use mathlib.Core.Bool.{Bool, true, false, cond, ◌||◌}
use mathlib.Core.List.{List, [], ◌∷◌, ◌++◌}
use Prim.Native.Nat.{ℕ, zero, suc, ◌+◌, ◌≤◌, ◌<◌}
use native.Mathlib.Omega.{arith}
use native.Mathlib.Decide.{ℕ_discrete}
use lib.Dec.{eqb}
use lib.ListN.{length, get_or}
use borrow.Author.Tests.{eqb-true, eq-eqb}
use Rattle.defs.specs.Lists.{any_of, all_of, same_list, tab, sum}
use Rattle.defs.specs.SeqGraph.{Edge, Graph, node_count, vertex_sequence, has_ends}
use Rattle.defs.specs.Simplify.{sequence_bytes}
use Rattle.defs.specs.Forms.{form_of, limits}
use Rattle.defs.specs.Record.{kind_of, vertices_of, edges_of, bytes_of, length_at, sequence_at, edge_at, decode}
use Rattle.defs.specs.Refusals.{Cause, refusal_of, Takes, doubled_edge, equal_kmers, doubled, has_cycle}
use Rattle.defs.specs.Refusals.{layout_causes, doubled_cause, cycle_cause, record_causes, record_refusal}
use Rattle.laws.proofs.Walks.{by_test}
use Rattle.laws.proofs.ListLaws.{clash, and_split, and-true, or_cases, same_list-eq, same_list-refl, or-false, or_right}
use Rattle.laws.proofs.Edges.{joins-ends}
use Rattle.laws.proofs.Counts.{Single, ends_join}
use Rattle.laws.proofs.Nets.{Bounded}
use Rattle.laws.proofs.Cycles.{Closed, any_of-mem, rounds}
use Rattle.laws.proofs.Fuel.{Good}
use Rattle.laws.proofs.Room.{Limits}
use Rattle.laws.proofs.Causes.{CausesNumbered, numbers-above, numbers-within, refusal-later, refusal-earlier}
use Rattle.tabs.proofs.Tabs.{length-tab, tab-ext}
use Rattle.tabs.proofs.ListTabs.{of-mem-tab}
use Rattle.tabs.proofs.SumTabs.{map-tab, bytes-sum}
use Rattle.record.specs.Layout.{WellFormed}
use Rattle.record.proofs.Accepted.{well-formed}
use Rattle.record.proofs.Sequences.{length-sequence}
use Rattle.cycle.proofs.CycleLaws.{cycle-closed, closed-cycle, no-cycle-ranked}
use Rattle.sound.specs.Alike.{no_edge, SameEnds, SameKmers}
use Rattle.sound.proofs.Pairs.{pair_of, of_pair}

-- ---- the causes 6 and 7 behind the five of the layout

module _ (t : Takes) (bs : List ℕ) where
  abbrev layout : List Cause
  layout = layout_causes t bs

  abbrev rest : List Cause
  rest = doubled_cause bs ∷ cycle_cause bs ∷ []

  refusal_is : record_refusal t bs ≡ refusal_of (layout ++ rest)
  unfolding record_refusal record_causes
  refusal_is = refl

  pub layout-numbered : CausesNumbered layout
  unfolding layout_causes all_of
  layout-numbered = numbers-above layout refl

  layout-most : refusal_of layout ≤ 5
  unfolding layout_causes all_of
  layout-most = numbers-within 5 layout refl

  rest-is : refusal_of rest ≡ cond (doubled bs) 6 (cond (has_cycle (decode bs)) 7 0)
  unfolding refusal_of
  rest-is = either (doubled bs) (has_cycle (decode bs))
    where
      either : (a b : Bool) → refusal_of (record { number = 6; present = a } ∷ record { number = 7; present = b } ∷ []) ≡ cond a 6 (cond b 7 0)
      either true b = refl
      either false true = refl
      either false false = refl

  -- a refusal of the layout is the record's
  pub refused-early : {i : ℕ} → refusal_of layout ≡ i → 0 < i → record_refusal t bs ≡ i
  refused-early e l = refusal_is ∙ refusal-earlier layout rest e (λ z. omega (arith, l, z))

  module _ (z : refusal_of layout ≡ 0) where
    later : record_refusal t bs ≡ cond (doubled bs) 6 (cond (has_cycle (decode bs)) 7 0)
    later = refusal_is ∙ refusal-later layout rest layout-numbered z ∙ rest-is

    pub refused-6 : doubled bs ≡ true → record_refusal t bs ≡ 6
    refused-6 d = later ∙ rw d

    pub refused-7 : doubled bs ≡ false → has_cycle (decode bs) ≡ true → record_refusal t bs ≡ 7
    refused-7 d c = later ∙ rw (d, c)

    pub accepted : doubled bs ≡ false → has_cycle (decode bs) ≡ false → record_refusal t bs ≡ 0
    accepted d c = later ∙ rw (d, c)

  -- the three causes apart
  pub by-refusal : {X : Type 0} → (0 < refusal_of layout → refusal_of layout ≤ 5 → record_refusal t bs ≡ refusal_of layout → X)
      → (refusal_of layout ≡ 0 → doubled bs ≡ true → record_refusal t bs ≡ 6 → X)
      → (refusal_of layout ≡ 0 → doubled bs ≡ false → has_cycle (decode bs) ≡ true → record_refusal t bs ≡ 7 → X)
      → (refusal_of layout ≡ 0 → doubled bs ≡ false → has_cycle (decode bs) ≡ false → record_refusal t bs ≡ 0 → X) → X
  by-refusal early six seven none = elim (ℕ_discrete (refusal_of layout) 0) [
    | no ne ↦ (let l : 0 < refusal_of layout = omega-pos (refusal_of layout) ne in early l layout-most (refused-early refl l))
    | yes z ↦ by_test (doubled bs) (λ d. six z d (refused-6 z d)) (λ d.
        by_test (has_cycle (decode bs)) (λ c. seven z d c (refused-7 z d c)) (λ c. none z d c (accepted z d c)))
  ]
    where
      omega-pos : (i : ℕ) → (i ≡ 0 → ⊥) → 0 < i
      omega-pos zero ne = absurd (ne refl)
      omega-pos (suc i) ne = omega arith

-- ---- the two tests of 6

doubled-cons : (e : Edge) (es : List Edge) → doubled_edge (e ∷ es) ≡ (any_of (has_ends e.from e.to) es || doubled_edge es)
unfolding doubled_edge
doubled-cons e es = refl

doubled-none : doubled_edge [] ≡ false
unfolding doubled_edge
doubled-none = refl

kmers-cons : (s : List ℕ) (ss : List (List ℕ)) → equal_kmers (s ∷ ss) ≡ (any_of (same_list s) ss || equal_kmers ss)
unfolding equal_kmers
kmers-cons s ss = refl

kmers-none : equal_kmers [] ≡ false
unfolding equal_kmers
kmers-none = refl

module _ (g : Graph) where
  pub doubled-same : doubled_edge g.edges ≡ true → SameEnds g
  doubled-same t = pair_of (λ (e : Edge). has_ends e.from e.to) no_edge doubled_edge doubled-none doubled-cons g.edges t (λ i j o b u.
      let q = joins-ends _ _ (get_or g.edges j no_edge) u in
      record { first = i; second = j; order = o; below = b; from = sym q.0; to = sym q.1 })

  pub same-doubled : SameEnds g → doubled_edge g.edges ≡ true
  same-doubled s = of_pair (λ (e : Edge). has_ends e.from e.to) no_edge doubled_edge doubled-none doubled-cons g.edges s.first
      s.second s.order s.below
      (ends_join _ _ (get_or g.edges s.second no_edge) s.from s.to)

  pub equal-same : equal_kmers g.verts ≡ true → SameKmers g
  unfolding node_count vertex_sequence
  equal-same t = pair_of same_list [] equal_kmers kmers-none kmers-cons g.verts t (λ i j o b u.
      record { first = i; second = j; order = o; below = b; same = same_list-eq _ _ u })

  pub same-equal : SameKmers g → equal_kmers g.verts ≡ true
  unfolding node_count vertex_sequence
  same-equal s = of_pair same_list [] equal_kmers kmers-none kmers-cons g.verts s.first s.second s.order s.below
      (ap (same_list (get_or g.verts s.first [])) (sym s.same) ∙ same_list-refl (get_or g.verts s.first []))

single-edges : (es : List Edge) → doubled_edge es ≡ false → Single es
single-edges [] f = tt
single-edges (e ∷ es) f =
    let s = or-false (any_of (has_ends e.from e.to) es) (doubled_edge es) (sym (doubled-cons e es) ∙ f) in
    (λ l. clash (any_of-mem (has_ends e.from e.to) es l.1 (ends_join _ _ l.0 (sym l.2) (sym l.3))) s.0, single-edges es s.1)

module _ (bs : List ℕ) where
  -- 6: two edges with the same ends, or in kind 0 two equal k-mers
  pub doubled-means : doubled bs ≡ true → SameEnds (decode bs) ⊎ ((kind_of bs ≡ 0) × SameKmers (decode bs))
  unfolding doubled
  doubled-means t = ⊎_elim
      (λ a. inl (doubled-same (decode bs) a))
      (λ a. let s = and_split (eqb (kind_of bs) 0) _ a in inr (eqb-true (kind_of bs) 0 s.0, equal-same (decode bs) s.1))
      (or_cases (doubled_edge (decode bs).edges) _ t)

  pub means-doubled : SameEnds (decode bs) ⊎ ((kind_of bs ≡ 0) × SameKmers (decode bs)) → doubled bs ≡ true
  unfolding doubled
  means-doubled s = ⊎_elim
      (λ a. rw (same-doubled (decode bs) a))
      (λ a. or_right (doubled_edge (decode bs).edges) _ (and-true (eqb (kind_of bs) 0) _ (eq-eqb (kind_of bs) 0 a.0) (same-equal (decode bs) a.1)))
      s

  -- ---- the graph of an accepted record

  pub order-read : node_count (decode bs) ≡ vertices_of bs
  unfolding node_count decode
  order-read = length-tab (vertices_of bs) (sequence_at bs)

  pub edges-read : length (decode bs).edges ≡ edges_of bs
  unfolding decode
  edges-read = length-tab (edges_of bs) (edge_at bs)

  module _ (ok : WellFormed bs) where
    pub read-bounded : Bounded (decode bs)
    unfolding decode
    read-bounded e m =
        let i = of-mem-tab (edges_of bs) (edge_at bs) m in
        let b = ok.good i.0 i.1 in
        rw i.2 (omega (arith, b.from, order-read), omega (arith, b.to, order-read))

    pub read-bytes : sequence_bytes (decode bs).verts ≡ bytes_of bs
    unfolding decode
    read-bytes =
        bytes-sum (tab (vertices_of bs) (sequence_at bs))
        ∙ ap sum (map-tab length (vertices_of bs) (sequence_at bs)
        ∙ tab-ext (vertices_of bs) (λ (i : ℕ). length (sequence_at bs i)) (length_at bs) (λ i b. length-sequence bs i b ok))
        ∙ ok.lengths

    pub read-limits : kind_of bs ≡ 1 → Limits (limits (form_of bs)).vertices (limits (form_of bs)).edges (limits (form_of bs)).bytes (decode bs)
    read-limits o = record {
      vertices = omega (arith, order-read, ok.vertices);
      edges = omega (arith, edges-read, ok.edges);
      few = omega (arith, read-bytes, ok.bytes o);
    }

    pub read-good : doubled bs ≡ false → has_cycle (decode bs) ≡ false → Good (decode bs)
    unfolding doubled
    read-good d c = (
      record { bounded = read-bounded; rank = rounds (decode bs) read-bounded; ranks = no-cycle-ranked (decode bs) read-bounded c },
      single-edges (decode bs).edges (or-false (doubled_edge (decode bs).edges) _ d).0,
    )

-- ---- whole records

module _ (t : Takes) (bs : List ℕ) where
  number-clash : {X : Type 0} {i j : ℕ} → record_refusal t bs ≡ i → record_refusal t bs ≡ j → (i ≡ j → ⊥) → X
  number-clash p q ne = absurd (ne (sym p ∙ q))

  -- of the causes 1 to 5 none is present
  pub accepted-early : record_refusal t bs ≡ 0 → refusal_of (layout_causes t bs) ≡ 0
  accepted-early z = by-refusal t bs (λ l u r. absurd (omega arith)) (λ a d r. a) (λ a d c r. a) (λ a d c r. a)

  pub accepted-layout : record_refusal t bs ≡ 0 → WellFormed bs
  accepted-layout z = well-formed t bs (accepted-early z)

  pub accepted-good : record_refusal t bs ≡ 0 → Good (decode bs)
  accepted-good z = by-refusal t bs
      (λ l u r. absurd (omega arith))
      (λ a d r. number-clash z r (λ q. omega arith))
      (λ a d c r. number-clash z r (λ q. omega arith))
      (λ a d c r. read-good bs (accepted-layout z) d c)

  pub accepted-limits : record_refusal t bs ≡ 0 → kind_of bs ≡ 1 → Limits (limits (form_of bs)).vertices (limits (form_of bs)).edges (limits (form_of bs)).bytes (decode bs)
  accepted-limits z o = read-limits bs (accepted-layout z) o

  -- 6 and 7 mean what they say
  pub six-means : record_refusal t bs ≡ 6 → SameEnds (decode bs) ⊎ ((kind_of bs ≡ 0) × SameKmers (decode bs))
  six-means z = by-refusal t bs
      (λ l u r. absurd (omega arith))
      (λ a d r. doubled-means bs d)
      (λ a d c r. number-clash z r (λ q. omega arith))
      (λ a d c r. number-clash z r (λ q. omega arith))

  pub means-six : refusal_of (layout_causes t bs) ≡ 0 → SameEnds (decode bs) ⊎ ((kind_of bs ≡ 0) × SameKmers (decode bs)) → record_refusal t bs ≡ 6
  means-six z s = refused-6 t bs z (means-doubled bs s)

  pub seven-means : record_refusal t bs ≡ 7 → Closed (decode bs)
  seven-means z = by-refusal t bs
      (λ l u r. absurd (omega arith))
      (λ a d r. number-clash z r (λ q. omega arith))
      (λ a d c r. cycle-closed (decode bs) c)
      (λ a d c r. number-clash z r (λ q. omega arith))

  pub means-seven : refusal_of (layout_causes t bs) ≡ 0 → (SameEnds (decode bs) ⊎ ((kind_of bs ≡ 0) × SameKmers (decode bs)) → ⊥)
      → Closed (decode bs) → record_refusal t bs ≡ 7
  means-seven z none c =
      refused-7 t bs z
      (by_test (doubled bs) (λ d. absurd (none (doubled-means bs d))) (λ d. d))
      (closed-cycle (decode bs) (read-bounded bs (well-formed t bs z)) c)
