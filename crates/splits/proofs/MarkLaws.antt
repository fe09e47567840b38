-- Marks that follow their vertices. Assumes nothing.
use mathlib.Core.Path.{◌≡◌, refl, sym, ap, ◌∙◌}
use mathlib.Core.Bool.{Bool, true, false}
use mathlib.Core.List.{List, [], ◌∷◌, map}
use Prim.Native.Nat.{ℕ, zero, suc, ◌+◌, ◌≤◌, ◌<◌}
use native.Mathlib.Numerals.{add-one}
use native.Mathlib.Omega.{arith}
use native.Mathlib.Decide.{ℕ_discrete}
use lib.ListN.{length, get_or, set, length-set}
use lib.Seq.{get_or-set_same, get_or-set_other}
use lib.Dec.{eqb}
use borrow.Author.Tests.{eq-eqb, ne_eqb, eqb-true, eqb-false}
use Rattle.defs.specs.Lists.{rank, elem_of, keep_if}
use Rattle.defs.specs.SeqGraph.{keeps, remap_numbers}
use Rattle.laws.proofs.Walks.{by_test}
use Rattle.laws.proofs.ListLaws.{clash, by_order, rank-yes, rank-no, rank_lt, rank-inj, keep_if-yes, keep_if-no}
use Rattle.tabs.proofs.Ranks.{rank_same}
use Rattle.store.specs.Store.{is_set, kept_by}
use Rattle.compact.specs.Compact.{Cleared}
use Rattle.splits.specs.Splits.{TriedMarks, MarksMoved}

-- ---- moving

pub record MovingMarks (l₀ : List ℕ) (n : ℕ) (mp l : List ℕ) (j v : ℕ) : Type 0 where
  pub high : v ≤ n
  pub low : j ≤ v
  pub len : length l ≡ length l₀
  pub count : j ≡ rank (kept_by mp) v
  pub at : (u : ℕ) → u < v → kept_by mp u ≡ true → get_or l (rank (kept_by mp) u) 0 ≡ get_or l₀ u 0
  pub rest : (u : ℕ) → v ≤ u → get_or l u 0 ≡ get_or l₀ u 0

module _ {l₀ : List ℕ} {n : ℕ} {mp : List ℕ} where
  pub moving-start : MovingMarks l₀ n mp l₀ 0 0
  unfolding rank
  moving-start = record { high = omega arith; low = omega arith; len = refl; count = refl; at = λ u h. absurd (omega arith); rest = λ u h. refl }

  module _ {l : List ℕ} {j v : ℕ} (M : MovingMarks l₀ n mp l j v) (h : v < n) where
    pub moving-yes : n ≤ length l₀ → kept_by mp v ≡ true → MovingMarks l₀ n mp (set l j (get_or l v 0)) (j + 1) (v + 1)
    moving-yes r t = record {
      high = omega arith;
      low = omega (arith, M.low);
      len = length-set l _ _ ∙ M.len;
      count = omega (arith, M.count, rank-yes (kept_by mp) v t, ap (rank (kept_by mp)) (add-one v));
      at = λ u b k. elim (ℕ_discrete u v) [
        | yes q ↦ rw (q, ← M.count) (get_or-set_same l j _ 0 (omega (arith, M.low, M.len)) ∙ M.rest v (omega arith))
        | no ne ↦ get_or-set_other l j (rank (kept_by mp) u) _ 0 (λ z. omega (arith, M.count, rank_lt (kept_by mp) u v (omega arith) k)) ∙ M.at u (omega arith) k
      ];
      rest = λ u b. get_or-set_other l j u _ 0 (λ z. omega (arith, M.low)) ∙ M.rest u (omega arith);
    }

    pub moving-no : kept_by mp v ≡ false → MovingMarks l₀ n mp l j (v + 1)
    moving-no t = record {
      high = omega arith;
      low = omega (arith, M.low);
      len = M.len;
      count = omega (arith, M.count, rank-no (kept_by mp) v t, ap (rank (kept_by mp)) (add-one v));
      at = λ u b k. elim (ℕ_discrete u v) [ yes q ↦ clash k (rw q t) | no ne ↦ M.at u (omega arith) k ];
      rest = λ u b. M.rest u (omega arith);
    }

  pub moving-end : {l : List ℕ} {j v : ℕ} → MovingMarks l₀ n mp l j v → n ≤ v → MarksMoved l₀ n mp j l
  moving-end {l} {j} {v} M h = let q : v ≡ n = omega (arith, M.high) in
      record { count = M.count ∙ ap (rank (kept_by mp)) q; at = λ u b. M.at u (omega arith) }

-- ---- the list under its new numbers

elem-yes : (v x : ℕ) (l : List ℕ) → eqb v x ≡ true → elem_of v (x ∷ l) ≡ true
unfolding elem_of
elem-yes v x l t = rw (t, elem_of)

elem-no : (v x : ℕ) (l : List ℕ) → eqb v x ≡ false → elem_of v (x ∷ l) ≡ elem_of v l
unfolding elem_of
elem-no v x l t = rw (t, elem_of)

module _ (gone : List ℕ) where
  -- a kept vertex is in the new list as it was in the old one
  remap-elem : (list : List ℕ) (w : ℕ) → keeps gone w ≡ true → elem_of (rank (keeps gone) w) (map (rank (keeps gone)) (keep_if (keeps gone) list)) ≡ elem_of w list
  unfolding keep_if elem_of
  remap-elem [] w k = refl
  remap-elem (x ∷ list) w k = by_test (keeps gone x)
      (λ t. rw t (by_test (eqb w x)
      (λ s. rw (s, elem_of) (here s))
      (λ s. rw (s, elem_of) (there t s ∙ remap-elem list w k))))
      (λ t. rw t (by_test (eqb w x)
      (λ s. clash k (rw (eqb-true w x s) t))
      (λ s. rw (s, elem_of) (remap-elem list w k))))
    where
      here : eqb w x ≡ true → elem_of (rank (keeps gone) w) (rank (keeps gone) x ∷ map (rank (keeps gone)) (keep_if (keeps gone) list)) ≡ true
      here s = rw (eq-eqb (rank (keeps gone) w) (rank (keeps gone) x) (ap (rank (keeps gone)) (eqb-true w x s)), elem_of)

      there : keeps gone x ≡ true → eqb w x ≡ false → elem_of (rank (keeps gone) w) (rank (keeps gone) x
          ∷ map (rank (keeps gone)) (keep_if (keeps gone) list))
          ≡ elem_of (rank (keeps gone) w) (map (rank (keeps gone)) (keep_if (keeps gone) list))
      there t s = rw (ne_eqb (rank (keeps gone) w) (rank (keeps gone) x) (λ z. eqb-false w x s (rank-inj (keeps gone) w x k t z)), elem_of)

  -- and a member of the new list is the number of a kept one
  pub record Member (list : List ℕ) (u : ℕ) : Type 0 where
    pub old : ℕ
    pub member : elem_of old list ≡ true
    pub stays : keeps gone old ≡ true
    pub is : rank (keeps gone) old ≡ u

  abbrev new : List ℕ → List ℕ
  new list = map (rank (keeps gone)) (keep_if (keeps gone) list)

  member-step : (x : ℕ) (list : List ℕ) (u : ℕ) → (elem_of u (new list) ≡ true → Member list u) → elem_of u (new (x ∷ list)) ≡ true → Member (x ∷ list) u
  member-step x list u ih e = by_test (keeps gone x)
      (λ t. let e' : elem_of u (rank (keeps gone) x ∷ new list) ≡ true =
      ap (λ (l : List ℕ). elem_of u (map (rank (keeps gone)) l)) (sym (keep_if-yes (keeps gone) x list t)) ∙ e in
      by_test (eqb u (rank (keeps gone) x))
      (λ s. record { old = x; member = elem-yes x x list (eq-eqb x x refl); stays = t; is = sym (eqb-true u _ s) })
      (λ s. later (ih (sym (elem-no u (rank (keeps gone) x) (new list) s) ∙ e'))))
      (λ t. later (ih (ap (λ (l : List ℕ). elem_of u (map (rank (keeps gone)) l)) (sym (keep_if-no (keeps gone) x list t)) ∙ e)))
    where
      later : Member list u → Member (x ∷ list) u
      later m = record {
        old = m.old;
        member = by_test (eqb m.old x) (λ s. elem-yes m.old x list s) (λ s. elem-no m.old x list s
            ∙ m.member);
        stays = m.stays;
        is = m.is;
      }

  remap-member : (list : List ℕ) (u : ℕ) → elem_of u (new list) ≡ true → Member list u
  remap-member [] u e = clash e (unfold elem_of keep_if in refl)
  remap-member (x ∷ list) u e = member-step x list u (λ a. remap-member list u a) e

-- a number below the rank of n is that of a kept vertex below n
place : (p : ℕ → Bool) (n u : ℕ) → u < rank p n → (w : ℕ) × (w < n) × (p w ≡ true) × (rank p w ≡ u)
place p zero u h = absurd (unfold rank in omega arith)
place p (suc n) u h = by_test (p n)
    (λ t. by_order (rank p n) u
    (λ a. (n, omega arith, t, omega (arith, rank-yes p n t)))
    (λ a. let z = place p n u a in (z.0, omega (arith, z.1), z.2, z.3)))
    (λ t. let z = place p n u (omega (arith, rank-no p n t)) in (z.0, omega (arith, z.1), z.2, z.3))

-- moved and cleared, the marks are those of the list under its new numbers
pub marks-after : (n n' j : ℕ) (mp gone l l₁ l₂ : List ℕ) → ((v : ℕ) → v < n → kept_by mp v ≡ keeps gone v) → MarksMoved l n mp j l₁
    → Cleared l₁ j n' l₂ → j ≤ n'
    → (list : List ℕ) → TriedMarks n l list → TriedMarks n' l₂ (remap_numbers gone list)
unfolding remap_numbers
marks-after n n' j mp gone l l₁ l₂ K M C hj list S = record { at = at; below = below }
  where
    ranks : (v : ℕ) → v ≤ n → rank (kept_by mp) v ≡ rank (keeps gone) v
    ranks v h = rank_same (kept_by mp) (keeps gone) v (λ u b. K u (omega arith))

    j-is : j ≡ rank (keeps gone) n
    j-is = M.count ∙ ranks n (omega arith)

    old : (u : ℕ) → u < j → is_set (get_or l₂ u 0) ≡ elem_of u (map (rank (keeps gone)) (keep_if (keeps gone) list))
    old u b =
        let z = place (keeps gone) n u (omega (arith, j-is)) in
        let e : get_or l₂ u 0 ≡ get_or l z.0 0 = C.same u b ∙ ap (λ (x : ℕ). get_or l₁ x 0) (sym (ranks z.0 (omega (arith, z.1)) ∙ z.3))
        ∙ M.at z.0 z.1 (K z.0 z.1 ∙ z.2) in
        ap is_set e ∙ S.at z.0 z.1 ∙ sym (remap-elem gone list z.0 z.2)
        ∙ ap (λ (x : ℕ). elem_of x (map (rank (keeps gone)) (keep_if (keeps gone) list))) z.3

    not-member : (u : ℕ) → j ≤ u → elem_of u (map (rank (keeps gone)) (keep_if (keeps gone) list)) ≡ false
    not-member u b = by_test (elem_of u (map (rank (keeps gone)) (keep_if (keeps gone) list)))
        (λ t. let z = remap-member gone list u t in absurd (omega (
          arith,
          z.is,
          j-is,
          rank_lt (keeps gone) z.old n (S.below z.old z.member) z.stays,
        )))
        (λ t. t)

    at : (u : ℕ) → u < n' → is_set (get_or l₂ u 0) ≡ elem_of u (map (rank (keeps gone)) (keep_if (keeps gone) list))
    at u b = by_order j u
        (λ a. ap is_set (C.none u a b) ∙ sym (not-member u a))
        (λ a. old u a)

    below : (u : ℕ) → elem_of u (map (rank (keeps gone)) (keep_if (keeps gone) list)) ≡ true → u < n'
    below u t = by_order j u (λ a. clash t (not-member u a)) (λ a. omega arith)
