-- What the loops over byte place and vertex have shown when they end. Assumes nothing.
use mathlib.Core.Path.{◌≡◌, sym, ap, ◌∙◌}
use mathlib.Core.Bool.{Bool, true, false, ◌&&◌}
use mathlib.Core.List.{List, map, reverse}
use Prim.Native.Nat.{ℕ, ◌+◌, ◌*◌, ◌-◌, ◌≤◌, ◌<◌}
use native.Mathlib.Omega.{arith}
use lib.ListN.{length, get_or, drop}
use lib.Dec.{eqb, ltb}
use borrow.Author.Tests.{ltb-true, lt-ltb, eqb-true, eq-eqb}
use Rattle.defs.specs.Lists.{tab, common_prefix, common_suffix}
use Rattle.laws.proofs.ListLaws.{and_split, and-true, clash}
use Rattle.tabs.proofs.Tabs.{tab-ext}
use Rattle.tabs.proofs.SumTabs.{map-tab}
use Rattle.store.specs.Store.{seq_in}
use Rattle.shared.specs.Shared.{Parts, start_at, len_at, byte_at, last_at, Prefix, Suffix}
use Rattle.shared.proofs.CommonLaws.{Agreeing, agreed}
use Rattle.shared.proofs.PartLaws.{part-tab, back, forth}

-- the test of one sequence: l bytes, x at place i
test-yes : (i l : ℕ) {x b : ℕ} {r : Bool} → r ≡ (ltb i l && eqb x b) → r ≡ true → (i < l) × (x ≡ b)
test-yes i l {x} {b} q t = let h = and_split (ltb i l) (eqb x b) (sym q ∙ t) in (ltb-true i l h.0, eqb-true x b h.1)

test-no : (i l : ℕ) {x b : ℕ} {r : Bool} → r ≡ (ltb i l && eqb x b) → r ≡ false → i < l → x ≡ b → ⊥
test-no i l {x} {b} q t h e = clash (q ∙ and-true (ltb i l) (eqb x b) (lt-ltb i l h) (eq-eqb x b e)) t

module _ {n : ℕ} {vs p nodes : List ℕ} {c : ℕ} (P : Parts n vs p nodes c) where
  pub in-pool : (k : ℕ) → k < c → start_at vs nodes k + len_at vs nodes k ≤ length p
  in-pool k h = P.within.at (get_or nodes k 0) (P.below k h)

  pub in-verts : (k : ℕ) → k < c → 2 * get_or nodes k 0 + 2 ≤ length vs
  in-verts k h = omega (arith, P.below k h, P.vs-room)

  -- byte i of vertex k is that of vertex 0, or not
  pub byte-yes : (k : ℕ) {r : Bool} {i l s start : ℕ} → r ≡ (ltb i l && eqb (get_or p (s + i) 0) (get_or p (start + i) 0)) → r ≡ true → s
      ≡ start_at vs nodes k → l ≡ len_at vs nodes k → start ≡ start_at vs nodes 0
      → (i < len_at vs nodes k) × (byte_at vs p nodes k i ≡ byte_at vs p nodes 0 i)
  byte-yes k {r} {i} {l} {s} {start} q t es el e₀ =
      let h : (i < l) × (get_or p (s + i) 0 ≡ get_or p (start + i) 0) = test-yes i l q t in
      (omega (arith, h.0), ap (λ (x : ℕ). get_or p (x + i) 0) (sym es) ∙ h.1 ∙ ap (λ (x : ℕ). get_or p (x + i) 0) e₀)

  pub byte-no : (k : ℕ) {r : Bool} {i l s start : ℕ} → r ≡ (ltb i l && eqb (get_or p (s + i) 0) (get_or p (start + i) 0)) → r ≡ false → s
      ≡ start_at vs nodes k → l ≡ len_at vs nodes k → start ≡ start_at vs nodes 0
      → i < len_at vs nodes k → byte_at vs p nodes k i ≡ byte_at vs p nodes 0 i → ⊥
  byte-no k {r} {i} {l} {s} {start} q t es el e₀ h e =
      test-no i l q t (omega arith) (ap (λ (x : ℕ). get_or p (x + i) 0) es ∙ e ∙ ap (λ (x : ℕ). get_or p (x + i) 0) (sym e₀))

  pub last-yes : (k skip : ℕ) {r : Bool} {i l s end : ℕ} → r ≡ (ltb i (l - skip) && eqb (get_or p (s + l - 1 - i) 0) (get_or p (end - 1 - i) 0))
      → r ≡ true → s ≡ start_at vs nodes k → l ≡ len_at vs nodes k → end ≡ start_at vs nodes 0 + len_at vs nodes 0
      → (i < len_at vs nodes k - skip) × (last_at vs p nodes k i ≡ last_at vs p nodes 0 i)
  last-yes k skip {r} {i} {l} {s} {end} q t es el e₀ =
      let h : (i < l - skip) × (get_or p (s + l - 1 - i) 0 ≡ get_or p (end - 1 - i) 0) = test-yes i (l - skip) q t in
      let z : start_at vs nodes k + len_at vs nodes k ≡ s + l = omega arith in
      (omega (arith, h.0), ap (λ (x : ℕ). get_or p (x - 1 - i) 0) z ∙ h.1 ∙ ap (λ (x : ℕ). get_or p (x - 1 - i) 0) e₀)

  pub last-no : (k skip : ℕ) {r : Bool} {i l s end : ℕ} → r ≡ (ltb i (l - skip) && eqb (get_or p (s + l - 1 - i) 0) (get_or p (end - 1 - i) 0))
      → r ≡ false → s ≡ start_at vs nodes k → l ≡ len_at vs nodes k → end ≡ start_at vs nodes 0 + len_at vs nodes 0
      → i < len_at vs nodes k - skip → last_at vs p nodes k i ≡ last_at vs p nodes 0 i → ⊥
  last-no k skip {r} {i} {l} {s} {end} q t es el e₀ h e =
      let z : s + l ≡ start_at vs nodes k + len_at vs nodes k = omega arith in
      test-no i (l - skip) q t (omega arith) (ap (λ (x : ℕ). get_or p (x - 1 - i) 0) z ∙ e ∙ ap (λ (x : ℕ). get_or p (x - 1 - i) 0) (sym e₀))

  -- vertex k has no such byte at r
  pub prefix-end : {r : ℕ} (k : ℕ) → Agreeing (len_at vs nodes) (byte_at vs p nodes) c r → k < c
      → (r < len_at vs nodes k → byte_at vs p nodes k r ≡ byte_at vs p nodes 0 r → ⊥) → Prefix vs p nodes c r
  prefix-end {r} k A h stop = record {
    all = A.le;
    is = ap common_prefix (tab-ext c (λ (j : ℕ). seq_in vs p (get_or nodes j 0)) (λ (j : ℕ). tab (len_at vs nodes j) (byte_at vs p nodes j))
        (λ j b. part-tab p (start_at vs nodes j) (len_at vs nodes j) (in-pool j b)))
        ∙ agreed r k A h stop
        ∙ sym (part-tab p (start_at vs nodes 0) r (omega (arith, in-pool 0 (omega arith), A.le 0 (omega arith))));
  }

  module _ (skip : ℕ) (H : (k : ℕ) → k < c → skip ≤ len_at vs nodes k) where
    pub suffix-end : {r : ℕ} (k : ℕ) → Agreeing (λ (j : ℕ). len_at vs nodes j - skip) (last_at vs p nodes) c r → k < c
        → (r < len_at vs nodes k - skip → last_at vs p nodes k r ≡ last_at vs p nodes 0 r → ⊥) → Suffix vs p nodes skip c r
    unfolding common_suffix
    suffix-end {r} k A h stop = record {
      all = λ j b. omega (arith, A.le j b, H j b);
      is = ap (λ (l : List (List ℕ)). reverse (common_prefix l)) (ap (map reverse) (map-tab (drop skip) c _) ∙ map-tab reverse c _
          ∙ tab-ext c (λ (j : ℕ). reverse (drop skip (seq_in vs p (get_or nodes j 0)))) (λ (j : ℕ).
          tab (len_at vs nodes j - skip) (last_at vs p nodes j)) (λ j b.
          back p (start_at vs nodes j) (len_at vs nodes j) skip (H j b) (in-pool j b)))
          ∙ ap reverse (agreed r k A h stop)
          ∙ forth p (start_at vs nodes 0 + len_at vs nodes 0) r (omega (arith, A.le 0 (omega arith), H 0 (omega arith))) (in-pool 0 (omega arith));
    }
