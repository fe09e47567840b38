-- The vertices of the split predecessors. Assumes nothing.
use mathlib.Core.Path.{◌≡◌, refl, sym, ap, ◌∙◌}
use mathlib.Core.Bool.{Bool, true, false, cond}
use mathlib.Core.List.{List, [], ◌∷◌, ◌++◌, append_assoc, append-nil}
use Prim.Native.Nat.{ℕ, ◌+◌, ◌*◌, ◌-◌, ◌≤◌, ◌<◌}
use native.Mathlib.Omega.{arith}
use native.Mathlib.Decide.{ℕ_discrete}
use lib.ListN.{length, get_or}
use lib.Dec.{ltb}
use borrow.Author.Tests.{lt-ltb, le-ltb}
use Rattle.defs.specs.Lists.{tab, concat}
use Rattle.tabs.proofs.Tabs.{tab-snoc, tab-zero, tab-ext}
use Rattle.tabs.proofs.SumTabs.{concat-snoc}
use Rattle.store.specs.Store.{part, seq_in, seqs_in, Within, put_vertex}
use Rattle.store.proofs.VertexLaws.{length-put-vertex, put-start, put-len, put-before}
use Rattle.split_suffix.specs.Split.{has_prefix, entry_number, suffix_number, new_seqs, suffix_verts, Cuttable, CutDone, VertsReady, VertsDone}
use Rattle.split_suffix.proofs.EdgeLoops.{number-low, number-most, number_more}

-- ---- a vertex behind the k that are there

module _ (vs : List ℕ) (k a b : ℕ) (r : 2 * k + 2 ≤ length vs) where
  push-vertex : (p : List ℕ) → seqs_in (k + 1) (put_vertex vs k a b) p ≡ seqs_in k vs p ++ (part p a b ∷ [])
  push-vertex p = tab-snoc k (seq_in (put_vertex vs k a b) p) ∙ (λ i.
      tab-ext k (seq_in (put_vertex vs k a b) p) (seq_in vs p) (λ v h j. part p (put-before vs k a b (2 * v) (omega arith) j) (put-before vs k a b (2 * v + 1) (omega arith) j)) i
      ++ (part p (put-start vs k a b r i) (put-len vs k a b r i) ∷ []))

  push-within : (used : ℕ) → Within used k vs → a + b ≤ used → Within used (k + 1) (put_vertex vs k a b)
  push-within used W h = record {
    at = λ v c. elim (ℕ_discrete v k) [
      | yes e ↦ rw e (omega (arith, put-start vs k a b r, put-len vs k a b r))
      | no ne ↦ omega (arith, put-before vs k a b (2 * v) (omega arith), put-before vs k a b (2 * v + 1) (omega arith), W.at v (omega arith))
    ];
  }

-- ---- one predecessor

module _ {k : ℕ} {vs : List ℕ} {s v : ℕ} (C : Cuttable k vs s v) where
  abbrev start : ℕ
  start = get_or vs (2 * v) 0

  abbrev size : ℕ
  size = get_or vs (2 * v + 1) 0

  pub cut-room : 2 * k + 2 ≤ length vs
  cut-room = less (has_prefix vs s v) C.room
    where
      less : (t : Bool) → 2 * (entry_number t k + 1) ≤ length vs → 2 * k + 2 ≤ length vs
      less true h = omega arith
      less false h = omega arith

  pub cut-one : (from : ℕ) → size ≤ s → CutDone k vs from s v (k + 1) (put_vertex vs k from s)
  cut-one from h = let t : has_prefix vs s v ≡ false = le-ltb s size h in record {
    count = ap (λ (x : Bool). entry_number x k + 1) (sym t);
    is = λ p. push-vertex vs k from s cut-room p ∙ ap (λ (x : Bool). seqs_in k vs p
        ++ cond x (part p from s ∷ part p start (size - s) ∷ []) (part p from s ∷ [])) (sym t);
    same = put-before vs k from s;
    within = push-within vs k from s cut-room;
  }

  module _ (h : s < size) where
    long : has_prefix vs s v ≡ true
    long = lt-ltb s size h

    room-two : 2 * k + 4 ≤ length vs
    room-two = omega (arith, C.room, ap (λ (x : Bool). entry_number x k) long)

    pub cut-room-two : (from : ℕ) → 2 * (k + 1) + 2 ≤ length (put_vertex vs k from s)
    cut-room-two from = rw (length-put-vertex vs k from s) (omega (arith, room-two))

    pub cut-two : (from : ℕ) → CutDone k vs from s v (k + 2) (put_vertex (put_vertex vs k from s) (k + 1) start (size - s))
    cut-two from = record {
      count = two ∙ ap (λ (x : Bool). entry_number x k + 1) (sym long);
      is = λ p. ap (λ (x : ℕ). seqs_in x vs₂ p) two ∙ push-vertex vs₁ (k + 1) start (size - s) (cut-room-two from) p
          ∙ ap (λ (l : List (List ℕ)). l ++ (part p start (size - s) ∷ [])) (push-vertex vs k from s cut-room p)
          ∙ append_assoc (seqs_in k vs p) (part p from s ∷ []) (part p start (size - s) ∷ [])
          ∙ ap (λ (x : Bool). seqs_in k vs p ++ cond x (part p from s ∷ part p start (size - s) ∷ []) (part p from s ∷ [])) (sym long);
      same = λ j b. put-before vs₁ (k + 1) start (size - s) j (omega arith) ∙ put-before vs k from s j b;
      within = λ used W b. rw two (push-within vs₁ (k + 1) start (size - s) (cut-room-two from) used (push-within
          vs k from s cut-room used W b) (omega (arith, W.at v C.below)));
    }
      where
        vs₁ : List ℕ
        vs₁ = put_vertex vs k from s

        vs₂ : List ℕ
        vs₂ = put_vertex vs₁ (k + 1) start (size - s)

        two : k + 2 ≡ k + 1 + 1
        two = omega arith

pub cuts-room : {k : ℕ} {vs : List ℕ} {s v len : ℕ} → Cuttable k vs s v → len ≡ get_or vs (2 * v + 1) 0 → s < len → 2 * (k + 1) + 2 ≤ length vs
cuts-room C ql h = omega (arith, room-two C (omega arith))

-- what the code leaves without a prefix, and with one
module _ {k : ℕ} {vs : List ℕ} {s v : ℕ} (C : Cuttable k vs s v) {from len : ℕ} {vs₁ : List ℕ} (ql : len ≡ get_or vs (2 * v + 1) 0) (put : vs₁
    ≡ put_vertex vs k from s) where
  pub cuts-one : len ≤ s → CutDone k vs from s v (k + 1) vs₁
  cuts-one h = rw put (cut-one C from (omega arith))

  pub cuts-two : {start : ℕ} {vs₂ : List ℕ} → start ≡ get_or vs (2 * v) 0 → s < len → vs₂ ≡ put_vertex vs₁ (k + 1) start (len - s)
      → CutDone k vs from s v (k + 2) vs₂
  cuts-two qs h put₂ = rw (put₂, put, qs, ql) (cut-two C (omega arith) from)

-- ---- all predecessors

pub record Stacking (n : ℕ) (vs₀ nodes : List ℕ) (c from s k : ℕ) (vs : List ℕ) (i : ℕ) : Type 0 where
  pub high : i ≤ c
  pub len : length vs ≡ length vs₀
  pub number : k ≡ suffix_number vs₀ nodes s n i
  pub is : (p : List ℕ) → seqs_in k vs p ≡ seqs_in n vs₀ p ++ suffix_verts vs₀ p nodes from s i
  pub same : (j : ℕ) → j < 2 * n → get_or vs j 0 ≡ get_or vs₀ j 0
  pub within : (used : ℕ) → Within used n vs₀ → from + s ≤ used → Within used k vs

module _ {n : ℕ} {vs₀ nodes : List ℕ} {c s : ℕ} (F : VertsReady n vs₀ nodes c s) where
  pub stacking-start : {from : ℕ} → Stacking n vs₀ nodes c from s n vs₀ 0
  unfolding suffix_number concat
  stacking-start {from} = record {
    high = omega arith;
    len = refl;
    number = refl;
    is = λ p. sym (ap (λ (x : List (List (List ℕ))). seqs_in n vs₀ p
        ++ concat x) (tab-zero (λ (i : ℕ). new_seqs vs₀ p from s (get_or nodes i 0))) ∙ append-nil (seqs_in n vs₀ p));
    same = λ j b. refl;
    within = λ used W b. W;
  }

  module _ {from k : ℕ} {vs : List ℕ} {i : ℕ} (S : Stacking n vs₀ nodes c from s k vs i) where
    module _ (h : i < c) where
      abbrev v : ℕ
      v = get_or nodes i 0

      v_below : v < n
      v_below = F.prevs.at i h

      size_same : get_or vs (2 * v + 1) 0 ≡ get_or vs₀ (2 * v + 1) 0
      size_same = S.same (2 * v + 1) (omega (arith, v_below))

      start-same : get_or vs (2 * v) 0 ≡ get_or vs₀ (2 * v) 0
      start-same = S.same (2 * v) (omega (arith, v_below))

      number_is : entry_number (has_prefix vs s v) k + 1 ≡ suffix_number vs₀ nodes s n (i + 1)
      number_is = (λ j. entry_number (ltb s (size_same j)) (S.number j) + 1) ∙ sym (number_more vs₀ nodes s n i)

      pub stacking-cut : Cuttable k vs s v
      stacking-cut = record {
        below = omega (arith, v_below, S.number, number-low vs₀ nodes s n i);
        room = omega (arith, number_is, number-most vs₀ nodes s n (i + 1) c (omega arith), F.room, S.len);
        small = omega (arith, size_same, start-same, F.small v v_below);
        s-small = F.s-small;
      }

      pub stacking-more : {k' : ℕ} {vs' : List ℕ} → CutDone k vs from s v k' vs' → length vs' ≡ length vs → Stacking n vs₀ nodes c from s k' vs' (i + 1)
      stacking-more {k'} {vs'} D a = record {
        high = omega arith;
        len = a ∙ S.len;
        number = D.count ∙ number_is;
        is = λ p. D.is p ∙ (λ j. S.is p j ++ cond (ltb s (size_same j)) (part p from s ∷ part p (start-same j) (size_same j - s) ∷ []) (part p from s ∷ []))
            ∙ append_assoc (seqs_in n vs₀ p) (suffix_verts vs₀ p nodes from s i) (new_seqs vs₀ p from s v)
            ∙ ap (λ (x : List (List ℕ)). seqs_in n vs₀ p ++ x) (sym
            (ap concat (tab-snoc i (λ (j : ℕ). new_seqs vs₀ p from s (get_or nodes j 0)))
            ∙ concat-snoc (tab i (λ (j : ℕ). new_seqs vs₀ p from s (get_or nodes j 0))) (new_seqs vs₀ p from s v)));
        same = λ j b. D.same j (omega (arith, S.number, number-low vs₀ nodes s n i)) ∙ S.same j b;
        within = λ used W b. D.within used (S.within used W b) b;
      }

    pub stacking-end : c ≤ i → VertsDone n vs₀ nodes c from s k vs
    stacking-end h = let q : i ≡ c = omega (arith, S.high) in record {
      count = S.number ∙ ap (suffix_number vs₀ nodes s n) q;
      is = λ p. S.is p ∙ ap (λ (x : ℕ). seqs_in n vs₀ p ++ suffix_verts vs₀ p nodes from s x) q;
      within = S.within;
    }
