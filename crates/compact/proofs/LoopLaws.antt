-- The loops of closing up. Assumes nothing.
use mathlib.Core.Path.{◌≡◌, refl, sym, ap, ◌∙◌}
use mathlib.Core.Bool.{Bool, true, false, cond, not, ◌&&◌, ◌||◌, false≢true}
use mathlib.Core.List.{List, [], ◌∷◌, ◌++◌, map, map-append, Memᴰ}
use mathlib.Core.Logic.{◌≢◌}
use Prim.Native.Nat.{ℕ, suc, ◌+◌, ◌*◌, ◌-◌, ◌≤◌, ◌<◌}
use native.Mathlib.Nat.{add-zero}
use native.Mathlib.Numerals.{add-one}
use native.Mathlib.Omega.{arith}
use native.Mathlib.Decide.{ℕ_discrete}
use lib.ListN.{length, get_or, set, length-set}
use lib.Seq.{get_or-set_same, get_or-set_other}
use borrow.Author.Tests.{eq-eqb, ne_eqb, eqb-true, eqb-false, not-true, not-false}
use borrow.Author.Count.{below_none, below_more}
use Rattle.defs.specs.Lists.{tab}
use Rattle.tabs.proofs.Tabs.{tab-snoc, tab-ext, tab-zero, length-tab, get_or-tab}
use Rattle.defs.specs.Lists.{bit, elem_of, keep_if, keep_at, rank}
use Rattle.defs.specs.SeqGraph.{Edge, Graph, Change, apply_change, remap_edge, add_or_update_edge, add_or_update_edges}
use Rattle.laws.proofs.ListLaws.{clash, rank-yes, rank-no, and_split}
use Rattle.laws.proofs.Walks.{by_test}
use Rattle.store.specs.Store.{is_set, edge, edge_in, edges_in, put_edge, put_vertex, seq_in, seqs_in, graph_in, nums_in, EndsBelow, Within, kept_by, Numbered}
use Rattle.store.proofs.EdgeLaws.{put-push, put_other, length-put}
use Rattle.store.proofs.VertexLaws.{put-start, put-len, put_rest, length-put-vertex}
use Rattle.tabs.proofs.ListTabs.{tab-append, keep_if-tab-yes, keep_if-tab-no, keep_at-tab-yes, keep_at-tab-no, mem-tab, of-mem-tab, elem_of-snoc}
use Rattle.tabs.proofs.Ranks.{rank_same}
use Rattle.compact.specs.Compact.{BothSet, Cleared, Marked, Renumbered, VertsClosed, EdgesClosed, unmarked}

-- ---- filling

-- x stands from `from` on, below i; what is before stays
pub record Filling (l₀ : List ℕ) (from to x : ℕ) (l : List ℕ) (i : ℕ) : Type 0 where
  pub low : from ≤ i
  pub high : i ≤ to
  pub len : length l ≡ length l₀
  pub is : (k : ℕ) → from ≤ k → k < i → get_or l k 0 ≡ x
  pub same : (k : ℕ) → k < from → get_or l k 0 ≡ get_or l₀ k 0

module _ {l₀ : List ℕ} {from to x : ℕ} where
  pub filling-start : from ≤ to → Filling l₀ from to x l₀ from
  filling-start h = record { low = omega arith; high = h; len = refl; is = λ k a b. absurd (omega arith); same = λ k b. refl }

  pub filling-more : {l : List ℕ} {i : ℕ} → Filling l₀ from to x l i → i < to → to ≤ length l₀ → Filling l₀ from to x (set l i x) (i + 1)
  filling-more {l} {i} F h r = record {
    low = omega (arith, F.low);
    high = omega arith;
    len = length-set l _ _ ∙ F.len;
    is = λ k a b. elim (ℕ_discrete k i) [
      | yes q ↦ rw q (get_or-set_same l i x 0 (omega (arith, F.len)))
      | no ne ↦ get_or-set_other l i k x 0 ne ∙ F.is k a (omega arith)
    ];
    same = λ k b. get_or-set_other l i k x 0 (λ z. omega (arith, F.low)) ∙ F.same k b;
  }

  pub filling-end : {l : List ℕ} {i : ℕ} → Filling l₀ from to x l i → to ≤ i → (k : ℕ) → from ≤ k → k < to → get_or l k 0 ≡ x
  filling-end F h k a b = F.is k a (omega arith)

-- marks are cleared by filling with 0
pub cleared : {l₀ l : List ℕ} {from to i : ℕ} → Filling l₀ from to 0 l i → to ≤ i → Cleared l₀ from to l
cleared F h = record { none = filling-end F h; same = F.same }

-- ---- marks

pub record MarkingGone (n g : ℕ) (gone mp₀ mp : List ℕ) (i : ℕ) : Type 0 where
  pub high : i ≤ g
  pub len : length mp ≡ length mp₀
  pub is : Marked (nums_in i gone) n mp

module _ {n g : ℕ} {gone mp₀ : List ℕ} where
  pub marking-start : (mp : List ℕ) → length mp ≡ length mp₀ → ((k : ℕ) → k < n → get_or mp k 0 ≡ 0) → MarkingGone n g gone mp₀ mp 0
  unfolding elem_of bit
  marking-start mp l h = record { high = omega arith; len = l; is = record { at = λ v b. h v b ∙ sym (ap (λ (x : List ℕ). bit (elem_of v x)) (tab-zero _)) } }

  pub marking-more : {mp : List ℕ} {i : ℕ} → MarkingGone n g gone mp₀ mp i → i < g → get_or gone i 0 < n → n ≤ length mp
      → MarkingGone n g gone mp₀ (set mp (get_or gone i 0) 1) (i + 1)
  unfolding bit
  marking-more {mp} {i} M h b r = record {
    high = omega arith;
    len = length-set mp _ _ ∙ M.len;
    is = record {
      at = λ v c. rw (tab-snoc i (λ (j : ℕ). get_or gone j 0), elem_of-snoc v (nums_in i gone) (get_or gone i 0)) (elim (ℕ_discrete v (get_or gone i 0)) [
        | yes e ↦ rw (eq-eqb v (get_or gone i 0) e) (ap (λ (x : ℕ). get_or (set mp (get_or gone i 0) 1) x 0) e
            ∙ get_or-set_same mp (get_or gone i 0) 1 0 (omega arith) ∙ or-true (elem_of v (nums_in i gone)))
        | no ne ↦ rw (ne_eqb v (get_or gone i 0) ne) (get_or-set_other mp (get_or gone i 0) v 1 0 ne ∙ M.is.at v c ∙ or-false (elem_of v (nums_in i gone)))
      ]);
    };
  }
    where
      or-true : (t : Bool) → 1 ≡ bit (t || true)
      or-true true = refl
      or-true false = refl

      or-false : (t : Bool) → bit t ≡ bit (t || false)
      or-false true = refl
      or-false false = refl

  pub marking-end : {mp : List ℕ} {i : ℕ} → MarkingGone n g gone mp₀ mp i → g ≤ i → Marked (nums_in g gone) n mp
  marking-end {mp} {i} M h = let e : i ≡ g = omega arith in rw e at M.is

-- ---- numbers

-- the first v vertices have their numbers, j of them stay
pub record Numbering (n : ℕ) (mp₀ mp : List ℕ) (v j : ℕ) : Type 0 where
  pub high : v ≤ n
  pub low : j ≤ v
  pub len : length mp ≡ length mp₀
  pub stay : (k : ℕ) → k < v → unmarked mp₀ k ≡ true → get_or mp k 0 ≡ suc (rank (unmarked mp₀) k)
  pub go : (k : ℕ) → k < v → unmarked mp₀ k ≡ false → get_or mp k 0 ≡ 0
  pub rest : (k : ℕ) → v ≤ k → get_or mp k 0 ≡ get_or mp₀ k 0
  pub is : j ≡ rank (unmarked mp₀) v

module _ {n : ℕ} {mp₀ : List ℕ} where
  pub numbering_start : Numbering n mp₀ mp₀ 0 0
  unfolding rank
  numbering_start = record {
    high = omega arith;
    low = omega arith;
    len = refl;
    stay = λ k b. absurd (omega arith);
    go = λ k b.
        absurd (omega arith);
    rest = λ k b. refl;
    is = refl;
  }

  module _ {mp : List ℕ} {v j : ℕ} (N : Numbering n mp₀ mp v j) (h : v < n) (r : n ≤ length mp₀) where
    was : get_or mp v 0 ≡ get_or mp₀ v 0
    was = N.rest v (omega arith)

    pub numbering-stays : get_or mp v 0 ≡ 0 → Numbering n mp₀ (set mp v (j + 1)) (v + 1) (j + 1)
    numbering-stays z =
        let t : unmarked mp₀ v ≡ true = eq-eqb _ _ (sym was ∙ z) in
        record {
          high = omega arith;
          low = omega arith;
          len = length-set mp v _ ∙ N.len;
          stay = λ k b s. elim (ℕ_discrete k v) [
            | yes e ↦ rw e (get_or-set_same mp v (j + 1) 0 (omega (arith, N.len)) ∙ (add-one j ∙ ap suc N.is))
            | no ne ↦ get_or-set_other mp v k _ 0 ne ∙ N.stay k (omega arith) s
          ];
          go = λ k b s. elim (ℕ_discrete k v) [
            | yes e ↦ clash t (ap (unmarked mp₀) (sym e) ∙ s)
            | no ne ↦ get_or-set_other mp v k _ 0 ne ∙ N.go k (omega arith) s
          ];
          rest = λ k b. get_or-set_other mp v k _ 0 (λ e. omega arith) ∙ N.rest k (omega arith);
          is = add-one j ∙ ap suc N.is ∙ sym (ap (rank (unmarked mp₀)) (add-one v) ∙ rank-yes (unmarked mp₀) v t);
        }

    pub numbering-goes : (get_or mp v 0 ≡ 0 → ⊥) → Numbering n mp₀ (set mp v 0) (v + 1) j
    numbering-goes z =
        let t : unmarked mp₀ v ≡ false = ne_eqb _ _ (λ q. z (was ∙ q)) in
        record {
          high = omega arith;
          low = omega arith;
          len = length-set mp v _ ∙ N.len;
          stay = λ k b s. elim (ℕ_discrete k v) [
            | yes e ↦ clash (ap (unmarked mp₀) (sym e) ∙ s) t
            | no ne ↦ get_or-set_other mp v k _ 0 ne ∙ N.stay k (omega arith) s
          ];
          go = λ k b s. elim (ℕ_discrete k v) [
            | yes e ↦ rw e (get_or-set_same mp v 0 0 (omega (arith, N.len)))
            | no ne ↦ get_or-set_other mp v k _ 0 ne ∙ N.go k (omega arith) s
          ];
          rest = λ k b. get_or-set_other mp v k _ 0 (λ e. omega arith) ∙ N.rest k (omega arith);
          is = N.is ∙ sym (ap (rank (unmarked mp₀)) (add-one v) ∙ rank-no (unmarked mp₀) v t);
        }

  pub numbering-end : {mp : List ℕ} {v j : ℕ} → Numbering n mp₀ mp v j → n ≤ v → n ≤ length mp₀ → Renumbered mp₀ n mp
  numbering-end {mp} {v} {j} N h r = record { numbered = record { room = omega (arith, N.len); is = is }; same = same }
    where
      same : (k : ℕ) → k < n → kept_by mp k ≡ unmarked mp₀ k
      same k b = by_test (unmarked mp₀ k)
          (λ t. ap not (ne_eqb (get_or mp k 0) 0 (λ q. omega (arith, q, N.stay k (omega arith) t))) ∙ sym t)
          (λ t. ap not (eq-eqb (get_or mp k 0) 0 (N.go k (omega arith) t)) ∙ sym t)

      is : (k : ℕ) → k < n → kept_by mp k ≡ true → get_or mp k 0 ≡ suc (rank (kept_by mp) k)
      is k b t = N.stay k (omega arith) (sym (same k b) ∙ t) ∙ ap suc (sym (rank_same (kept_by mp) (unmarked mp₀) k (λ u c. same u (omega arith))))

-- ---- closing the vertices up

pub record ClosingV (mp : List ℕ) (n : ℕ) (vs₀ vs : List ℕ) (i j : ℕ) : Type 0 where
  pub high : i ≤ n
  pub low : j ≤ i
  pub len : length vs ≡ length vs₀
  pub is : (p : List ℕ) → seqs_in j vs p ≡ keep_at (kept_by mp) 0 (seqs_in i vs₀ p)
  pub within : (used : ℕ) → Within used n vs₀ → Within used j vs
  pub rest : (k : ℕ) → 2 * i ≤ k → get_or vs k 0 ≡ get_or vs₀ k 0

module _ {mp : List ℕ} {n : ℕ} {vs₀ : List ℕ} where
  pub closing-v-start : ClosingV mp n vs₀ vs₀ 0 0
  unfolding keep_at
  closing-v-start = record {
    high = omega arith;
    low = omega arith;
    len = refl;
    is = λ p. tab-zero _ ∙ sym (ap (keep_at (kept_by mp) 0) (tab-zero _));
    within = λ used w. record { at = λ v h. absurd (omega arith) };
    rest = λ k h. refl;
  }

  module _ {vs : List ℕ} {i j : ℕ} (C : ClosingV mp n vs₀ vs i j) (h : i < n) where
    pub closing-v-drop : get_or mp i 0 ≡ 0 → ClosingV mp n vs₀ vs (i + 1) j
    closing-v-drop z = record {
      high = omega arith;
      low = omega arith;
      len = C.len;
      is = λ p. C.is p ∙ sym (keep_at-tab-no (kept_by mp) i (seq_in vs₀ p) (ap not (eq-eqb _ _ z)));
      within = C.within;
      rest = λ k b. C.rest k (omega arith);
    }

    pub closing-v-keep : {vs' : List ℕ} {a b : ℕ} → 2 * n ≤ length vs₀ → (get_or mp i 0 ≡ 0 → ⊥) → a ≡ get_or vs (2 * i) 0
        → b ≡ get_or vs (2 * i + 1) 0 → vs' ≡ put_vertex vs j a b → ClosingV mp n vs₀ vs' (i + 1) (j + 1)
    closing-v-keep {vs'} {a} {b} r z ha hb q = record {
      high = omega arith;
      low = omega arith;
      len = ap length q ∙ length-put-vertex vs j a b ∙ C.len;
      is = λ p. tab-snoc j _ ∙ (λ x. tab-ext j (seq_in vs' p) (seq_in vs p) (λ k b. old p k b) x ++ (new p x ∷ []))
          ∙ ap (λ (l : List (List ℕ)). l ++ (seq_in vs₀ p i ∷ [])) (C.is p)
          ∙ sym (keep_at-tab-yes (kept_by mp) i (seq_in vs₀ p) (ap not (ne_eqb _ _ z)));
      within = λ used w. record {
        at = λ v b. elim (ℕ_discrete v j) [
          | yes e ↦ rw e (omega (arith, start, size, w.at i h))
          | no ne ↦ omega (
            arith,
            at (2 * v) (λ q. ne (omega arith)) (λ q. omega arith),
            at (2 * v + 1) (λ q. omega arith) (λ q. ne (omega arith)),
            (C.within used w).at v (omega arith),
          )
        ];
      };
      rest = λ k b. at k (λ q. omega arith) (λ q. omega arith) ∙ C.rest k (omega arith);
    }
      where
        at : (k : ℕ) → (k ≡ 2 * j → ⊥) → (k ≡ 2 * j + 1 → ⊥) → get_or vs' k 0 ≡ get_or vs k 0
        at k x y = ap (λ (l : List ℕ). get_or l k 0) q ∙ put_rest vs j a b k x y

        room : 2 * j + 2 ≤ length vs
        room = omega (arith, C.low, C.len)

        start : get_or vs' (2 * j) 0 ≡ get_or vs₀ (2 * i) 0
        start = ap (λ (l : List ℕ). get_or l (2 * j) 0) q ∙ put-start vs j a b room ∙ ha ∙ C.rest (2 * i) (omega arith)

        size : get_or vs' (2 * j + 1) 0 ≡ get_or vs₀ (2 * i + 1) 0
        size = ap (λ (l : List ℕ). get_or l (2 * j + 1) 0) q ∙ put-len vs j a b room ∙ hb ∙ C.rest (2 * i + 1) (omega arith)

        new : (p : List ℕ) → seq_in vs' p j ≡ seq_in vs₀ p i
        new p = λ x. Rattle.store.specs.Store.part p (start x) (size x)

        old : (p : List ℕ) (k : ℕ) → k < j → seq_in vs' p k ≡ seq_in vs p k
        old p k b = λ x. Rattle.store.specs.Store.part p (at (2 * k) (λ q. omega arith) (λ q. omega arith) x)
            (at (2 * k + 1) (λ q. omega arith) (λ q. omega arith) x)

  pub closing-v-end : {vs : List ℕ} {i j : ℕ} → ClosingV mp n vs₀ vs i j → n ≤ i → VertsClosed mp n vs₀ j vs
  closing-v-end {vs} {i} {j} C h = let e : i ≡ n = omega arith in
      record { most = omega arith; is = λ p. C.is p ∙ ap (λ (x : ℕ). keep_at (kept_by mp) 0 (seqs_in x vs₀ p)) e; within = C.within }

-- ---- closing the edges up

abbrev staying : List ℕ → Edge → Bool
staying mp e = kept_by mp e.from && kept_by mp e.to

pub record ClosingE (mp : List ℕ) (m : ℕ) (es₀ es : List ℕ) (i j : ℕ) : Type 0 where
  pub high : i ≤ m
  pub low : j ≤ i
  pub len : length es ≡ length es₀
  pub is : edges_in j es ≡ map (remap_edge (kept_by mp)) (keep_if (staying mp) (edges_in i es₀))
  pub rest : (k : ℕ) → 4 * i ≤ k → get_or es k 0 ≡ get_or es₀ k 0

module _ {mp : List ℕ} {m : ℕ} {es₀ : List ℕ} where
  pub closing-e-start : ClosingE mp m es₀ es₀ 0 0
  unfolding keep_if
  closing-e-start = record {
    high = omega arith;
    low = omega arith;
    len = refl;
    is = tab-zero _ ∙ sym (ap (λ (l : List Edge). map (remap_edge (kept_by mp)) (keep_if (staying mp) l)) (tab-zero _));
    rest = λ k h. refl;
  }

  module _ {es : List ℕ} {i j fr to : ℕ} (C : ClosingE mp m es₀ es i j) (h : i < m) (hf : fr ≡ get_or es (4 * i) 0) (ht : to ≡ get_or es (4 * i + 1) 0) where
    from-was : fr ≡ get_or es₀ (4 * i) 0
    from-was = hf ∙ C.rest (4 * i) (omega arith)

    to-was : to ≡ get_or es₀ (4 * i + 1) 0
    to-was = ht ∙ C.rest (4 * i + 1) (omega arith)

    pub closing-e-ends : {n : ℕ} → EndsBelow n m es₀ → (fr < n) × (to < n)
    closing-e-ends E = (omega (arith, from-was, (E.at i h).0), omega (arith, to-was, (E.at i h).1))

    pub closing-e-drop : kept_by mp fr && kept_by mp to ≡ false → ClosingE mp m es₀ es (i + 1) j
    closing-e-drop t = record {
      high = omega arith;
      low = omega arith;
      len = C.len;
      is = C.is ∙ sym (ap (map (remap_edge (kept_by mp))) (keep_if-tab-no (staying mp) i (edge_in es₀) (rw (← from-was, ← to-was) t)));
      rest = λ k b. C.rest k (omega arith);
    }

    pub closing-e-keep : {es' : List ℕ} {n s f : ℕ} → 4 * m ≤ length es₀ → Numbered n mp → EndsBelow n m es₀ → kept_by mp fr && kept_by mp to ≡ true
        → s ≡ get_or es (4 * i + 2) 0 → f ≡ get_or es (4 * i + 3) 0 → es' ≡ put_edge es j (get_or mp fr 0 - 1) (get_or mp to 0 - 1) s f
        → ClosingE mp m es₀ es' (i + 1) (j + 1)
    unfolding remap_edge
    closing-e-keep {es'} {n} {s} {f} r N E t hs hg q = record {
      high = omega arith;
      low = omega arith;
      len = ap length q ∙ length-put es j _ _ s f ∙ C.len;
      is = ap (edges_in (j + 1)) q ∙ put-push j es _ _ s f (omega (arith, C.len))
          ∙ (λ x. C.is x ++ (new x ∷ []))
          ∙ sym (ap (map (remap_edge (kept_by mp))) (keep_if-tab-yes (staying mp) i (edge_in es₀) (rw (← from-was, ← to-was) t))
          ∙ map-append (remap_edge (kept_by mp)) (keep_if (staying mp) (edges_in i es₀)) (edge_in es₀ i ∷ []));
      rest = λ k b. rw q (Rattle.store.proofs.EdgeLaws.put-at es j _ _ s f k (λ z. omega arith) (λ z. omega arith) (λ z. omega arith) (λ z.
          omega arith) ∙ C.rest k (omega arith));
    }
      where
        yes : (kept_by mp fr ≡ true) × (kept_by mp to ≡ true)
        yes = and_split _ _ t

        below : (fr < n) × (to < n)
        below = closing-e-ends E

        a-is : get_or mp fr 0 - 1 ≡ rank (kept_by mp) (get_or es₀ (4 * i) 0)
        a-is = omega (arith, N.is fr below.0 yes.0) ∙ ap (rank (kept_by mp)) from-was

        b-is : get_or mp to 0 - 1 ≡ rank (kept_by mp) (get_or es₀ (4 * i + 1) 0)
        b-is = omega (arith, N.is to below.1 yes.1) ∙ ap (rank (kept_by mp)) to-was

        new : edge (get_or mp fr 0 - 1) (get_or mp to 0 - 1) s f ≡ remap_edge (kept_by mp) (edge_in es₀ i)
        new = λ x. edge (a-is x) (b-is x) ((hs ∙ C.rest (4 * i + 2) (omega arith)) x) ((hg ∙ C.rest (4 * i + 3) (omega arith)) x)

  pub closing-e-end : {es : List ℕ} {i j : ℕ} → ClosingE mp m es₀ es i j → m ≤ i → EdgesClosed mp m es₀ j es
  closing-e-end {es} {i} {j} C h = let e : i ≡ m = omega arith in
      record { most = omega arith; is = C.is ∙ ap (λ (x : ℕ). map (remap_edge (kept_by mp)) (keep_if (staying mp) (edges_in x es₀))) e }

pub closing-e-from : {mp es₀ es : List ℕ} {m n i j fr : ℕ} → ClosingE mp m es₀ es i j → i < m → fr ≡ get_or es (4 * i) 0 → EndsBelow n m es₀ → fr < n
closing-e-from {i = i} C h hf E = omega (arith, hf, C.rest (4 * i) (omega arith), (E.at i h).0)

pub both_yes : (a b : ℕ) (r : Bool) → r ≡ is_set a && is_set b → BothSet a b r
both_yes a b r q = record {
  is = q;
  left = λ t. omega (arith, eqb-false a 0 (not-true _ (and_split (is_set a) (is_set b) (sym q ∙ t)).0));
  right = λ t. omega (arith, eqb-false b 0 (not-true _ (and_split (is_set a) (is_set b) (sym q ∙ t)).1));
}
