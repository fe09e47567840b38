-- MovingEdges the edges out of a chain's last vertex. Assumes nothing.
use mathlib.Core.Path.{◌≡◌, refl, sym, ap, ◌∙◌}
use mathlib.Core.Bool.{cond}
use mathlib.Core.List.{List}
use Prim.Native.Nat.{ℕ, ◌+◌, ◌*◌, ◌≤◌, ◌<◌}
use native.Mathlib.Omega.{arith}
use native.Mathlib.Decide.{ℕ_discrete}
use lib.ListN.{length, get_or, set, length-set}
use lib.Seq.{get_or-set_same, get_or-set_other}
use lib.Dec.{eqb}
use borrow.Author.Tests.{eqb-true, eqb-false}
use Rattle.laws.proofs.Walks.{by_test}
use Rattle.tabs.proofs.Tabs.{tab-ext}
use Rattle.tabs.proofs.SumTabs.{map-tab}
use Rattle.store.specs.Store.{edge, edge_in}
use Rattle.index.specs.Index.{edge_end, pair_at, Indexed}
use Rattle.index.proofs.IndexLaws.{end-first, pair-first}
use Rattle.merge_linear_chain.specs.Zip.{moved_edge, EdgesMoved}

-- the next edge comes later
pub later : {m n : ℕ} {es heads nexts : List ℕ} → Indexed m n es heads nexts → (e : ℕ) → e < m → e < get_or nexts (2 * e) 0
later {nexts = nexts} I e h = omega (arith, ((I.index 0 (omega arith)).nexts e h).low, pair-first nexts e)

-- those before e have moved
pub record MovingEdges (m : ℕ) (es₀ es : List ℕ) (last start e : ℕ) : Type 0 where
  pub high : e ≤ m
  pub hit : e < m → get_or es₀ (4 * e) 0 ≡ last
  pub len : length es ≡ length es₀
  pub done : (j : ℕ) → j < e → get_or es₀ (4 * j) 0 ≡ last → get_or es (4 * j) 0 ≡ start
  pub kept : (j : ℕ) → (get_or es₀ (4 * j) 0 ≡ last → e ≤ j) → get_or es (4 * j) 0 ≡ get_or es₀ (4 * j) 0
  pub to-kept : (j : ℕ) → get_or es (4 * j + 1) 0 ≡ get_or es₀ (4 * j + 1) 0
  pub support-kept : (j : ℕ) → get_or es (4 * j + 2) 0 ≡ get_or es₀ (4 * j + 2) 0
  pub flag-kept : (j : ℕ) → get_or es (4 * j + 3) 0 ≡ get_or es₀ (4 * j + 3) 0

module _ {m n : ℕ} {es₀ heads nexts : List ℕ} (I : Indexed m n es₀ heads nexts) {last start : ℕ} where
  pub moving-start : (e : ℕ) → last < n → e ≡ get_or heads (2 * last) 0 → MovingEdges m es₀ es₀ last start e
  moving-start e h q =
      let N = (I.index 0 (omega arith)).heads last h in
      let z : e ≡ pair_at 0 heads last = q ∙ pair-first heads last in
      record {
        high = omega (arith, N.high);
        hit = λ b. sym (end-first es₀ e) ∙ ap (edge_end 0 es₀) z ∙ N.hit (omega arith);
        len = refl;
        done = λ j b t. absurd (N.skip j (omega arith) (omega arith) (end-first es₀ j ∙ t));
        kept = λ j b. refl;
        to-kept = λ j. refl;
        support-kept = λ j. refl;
        flag-kept = λ j. refl;
      }

  pub moving-more : {es es' : List ℕ} {e : ℕ} → MovingEdges m es₀ es last start e → e < m → es' ≡ set es (4 * e) start → (x : ℕ)
      → x ≡ get_or nexts (2 * e) 0 → MovingEdges m es₀ es' last start x
  moving-more {es} {es'} {e} M h put x q =
      let N = (I.index 0 (omega arith)).nexts e h in
      let z : x ≡ pair_at 0 nexts e = q ∙ pair-first nexts e in
      let at_last : edge_end 0 es₀ e ≡ last = end-first es₀ e ∙ M.hit h in
      let room : 4 * e < length es = omega (arith, M.len, I.room) in
      rw put (record {
        high = omega (arith, N.high);
        hit = λ b. sym (end-first es₀ x) ∙ ap (edge_end 0 es₀) z ∙ N.hit (omega arith) ∙ at_last;
        len = length-set es _ _ ∙ M.len;
        done = λ j b t. elim (ℕ_discrete j e) [
          | yes y ↦ rw y (get_or-set_same es (4 * e) start 0 room)
          | no ne ↦ get_or-set_other es (4 * e) (4 * j) start 0 (λ w. ne (omega arith))
              ∙ M.done j (before j ne b t (λ a c d. N.skip j a (omega arith) (end-first es₀ j ∙ t ∙ sym at_last))) t
        ];
        kept = λ j b. elim (ℕ_discrete j e) [
          | yes y ↦ absurd (omega (arith, b (ap (λ (w : ℕ). get_or es₀ (4 * w) 0) y ∙ M.hit h), N.low))
          | no ne ↦ get_or-set_other es (4 * e) (4 * j) start 0 (λ w. ne (omega arith)) ∙ M.kept j (λ t. omega (arith, b t, N.low))
        ];
        to-kept = λ j. get_or-set_other es (4 * e) (4 * j + 1) start 0 (λ w. omega arith) ∙ M.to-kept j;
        support-kept = λ j. get_or-set_other es (4 * e) (4 * j + 2) start 0 (λ w. omega arith) ∙ M.support-kept j;
        flag-kept = λ j. get_or-set_other es (4 * e) (4 * j + 3) start 0 (λ w. omega arith) ∙ M.flag-kept j;
      })
    where
      before : (j : ℕ) → (j ≡ e → ⊥) → j < x → get_or es₀ (4 * j) 0 ≡ last → (e + 1 ≤ j → j < x → get_or es₀ (4 * j) 0 ≡ last → ⊥) → j < e
      before j ne b t f = Rattle.laws.proofs.ListLaws.by_order e j (λ a. absurd (f (omega arith) b t)) (λ a. a)

  pub moving-end : {es : List ℕ} {e : ℕ} → MovingEdges m es₀ es last start e → m ≤ e → EdgesMoved m es₀ last start es
  moving-end {es} {e} M h = record {
    is = tab-ext m (edge_in es) (λ (i : ℕ). moved_edge last start (edge_in es₀ i)) each
        ∙ sym (map-tab (moved_edge last start) m (edge_in es₀));
  }
    where
      source : (j : ℕ) → j < m → get_or es (4 * j) 0 ≡ cond (eqb (get_or es₀ (4 * j) 0) last) start (get_or es₀ (4 * j) 0)
      source j b = by_test (eqb (get_or es₀ (4 * j) 0) last)
          (λ t. rw t (M.done j (omega arith) (eqb-true _ _ t)))
          (λ t. rw t (M.kept j (λ w. absurd (eqb-false _ _ t w))))

      each : (j : ℕ) → j < m → edge_in es j ≡ moved_edge last start (edge_in es₀ j)
      each j b = λ i. edge (source j b i) (M.to-kept j i) (M.support-kept j i) (M.flag-kept j i)
