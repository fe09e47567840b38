-- Edges closed up in place. Assumes nothing.
use mathlib.Core.Path.{◌≡◌, refl, sym, ap, ◌∙◌}
use mathlib.Core.Bool.{Bool, true, false, not, ◌&&◌}
use mathlib.Core.List.{List, [], ◌∷◌, ◌++◌}
use Prim.Native.Nat.{ℕ, zero, suc, ◌+◌, ◌*◌, ◌≤◌, ◌<◌}
use native.Mathlib.Nat.{add-zero}
use native.Mathlib.Omega.{arith}
use lib.Dec.{eqb}
use lib.ListN.{length, get_or}
use Rattle.defs.specs.Lists.{keep_if}
use Rattle.laws.proofs.ListLaws.{of-keep_if, not-not}
use Rattle.tabs.proofs.Tabs.{tab-zero}
use Rattle.tabs.proofs.ListTabs.{keep_if-tab-yes, keep_if-tab-no}
use Rattle.store.specs.Store.{is_set, edge, edge_in, edges_in, put_edge, EndsBelow}
use Rattle.store.proofs.EdgeLaws.{length-put, put-push, put-at}
use Rattle.compact.proofs.CompactLaws.{ends-mem, mem-ends}
use Rattle.index.specs.Index.{end_at}
use Rattle.index.proofs.IndexLaws.{end_is}
use Rattle.non_ref_paths.specs.CleanNonRef.{stays_by, EdgesKept}

-- ---- the test

plain-stays : {r : Bool} (x : ℕ) → r ≡ false → eqb x 0 ≡ not (not r && is_set x)
plain-stays x q = rw q (not-not _)

pub stays-ref : (off : ℕ) (marks es : List ℕ) (e : ℕ) → (edge_in es e).is_ref ≡ true → true ≡ stays_by off marks (edge_in es e)
unfolding stays_by
stays-ref off marks es e t = rw t

pub stays-unmarked : (off : ℕ) (marks es : List ℕ) (e : ℕ) {x : ℕ} → off ≤ 1 → (edge_in es e).is_ref ≡ false
    → x ≡ get_or es (4 * e + off) 0 → eqb (get_or marks x 0) 0 ≡ stays_by off marks (edge_in es e)
unfolding stays_by
stays-unmarked off marks es e l t p = ap (λ (x : ℕ). eqb (get_or marks x 0) 0) (p ∙ sym (end_is es off e l))
    ∙ plain-stays (get_or marks (end_at off (edge_in es e)) 0) t

-- ---- the loop

pub record Keeping (off m : ℕ) (es₀ marks es : List ℕ) (i j : ℕ) : Type 0 where
  pub high : i ≤ m
  pub low : j ≤ i
  pub len : length es ≡ length es₀
  pub is : edges_in j es ≡ keep_if (stays_by off marks) (edges_in i es₀)
  pub rest : (k : ℕ) → 4 * i ≤ k → get_or es k 0 ≡ get_or es₀ k 0

module _ {off m : ℕ} {es₀ marks : List ℕ} where
  pub keeping_start : Keeping off m es₀ marks es₀ 0 0
  unfolding keep_if
  keeping_start = record {
    high = omega arith;
    low = omega arith;
    len = refl;
    is = tab-zero _
        ∙ sym (ap (keep_if (stays_by off marks)) (tab-zero _));
    rest = λ k h. refl;
  }

  module _ {es : List ℕ} {i j : ℕ} (K : Keeping off m es₀ marks es i j) (h : i < m) where
    was : edge_in es i ≡ edge_in es₀ i
    was = λ x. edge (K.rest (4 * i) (omega arith) x) (K.rest (4 * i + 1) (omega arith) x) (K.rest (4 * i + 2) (omega arith) x)
        (K.rest (4 * i + 3) (omega arith) x)

    pub keeping-below : {n : ℕ} → off ≤ 1 → EndsBelow n m es₀ → get_or es (4 * i + off) 0 < n
    keeping-below {n} l E = at off l
      where
        at : (off : ℕ) → off ≤ 1 → get_or es (4 * i + off) 0 < n
        at zero l = omega (arith, K.rest (4 * i) (omega arith), (E.at i h).0, ap (λ (x : ℕ). get_or es x 0) (add-zero (4 * i)))
        at (suc zero) l = omega (arith, K.rest (4 * i + 1) (omega arith), (E.at i h).1)
        at (suc (suc n)) l = absurd (omega arith)

    pub keeping-drop : stays_by off marks (edge_in es i) ≡ false → Keeping off m es₀ marks es (i + 1) j
    keeping-drop t = record {
      high = omega arith;
      low = omega (arith, K.low);
      len = K.len;
      is = K.is ∙ sym (keep_if-tab-no (stays_by off marks) i (edge_in es₀) (ap (stays_by off marks) (sym was) ∙ t));
      rest = λ k b. K.rest k (omega arith);
    }

    pub keeping-keep : {es' : List ℕ} {a b s f : ℕ} → 4 * m ≤ length es₀ → stays_by off marks (edge_in es i) ≡ true
        → a ≡ get_or es (4 * i) 0 → b ≡ get_or es (4 * i + 1) 0 → s ≡ get_or es (4 * i + 2) 0 → f ≡ get_or es (4 * i + 3) 0 → es'
        ≡ put_edge es j a b s f → Keeping off m es₀ marks es' (i + 1) (j + 1)
    keeping-keep {es'} {a} {b} {s} {f} room t ha hb hs hf q = record {
      high = omega arith;
      low = omega (arith, K.low);
      len = ap length q ∙ length-put es j a b s f ∙ K.len;
      is = ap (edges_in (j + 1)) q ∙ put-push j es a b s f (omega (arith, K.len, K.low))
          ∙ (λ x. K.is x ++ ((new ∙ was) x ∷ []))
          ∙ sym (keep_if-tab-yes (stays_by off marks) i (edge_in es₀) (ap (stays_by off marks) (sym was) ∙ t));
      rest = λ k c. rw q (put-at es j a b s f k (λ z. omega (arith, K.low)) (λ z. omega (arith, K.low)) (λ z. omega (arith, K.low)) (λ z.
          omega (arith, K.low)) ∙ K.rest k (omega arith));
    }
      where
        new : edge a b s f ≡ edge_in es i
        new = λ x. edge (ha x) (hb x) (hs x) (hf x)

  pub keeping-end : {es : List ℕ} {i j n : ℕ} → Keeping off m es₀ marks es i j → m ≤ i → EndsBelow n m es₀ → EdgesKept off n m es₀ marks j es
  keeping-end {es} {i} {j} {n} K l E = record {
    most = omega (arith, K.low, K.high);
    is = all;
    ends =
        mem-ends n j es (λ e k. ends-mem E e (of-keep_if (stays_by off marks) (edges_in m es₀) (rw all at k)).0);
  }
    where
      all : edges_in j es ≡ keep_if (stays_by off marks) (edges_in m es₀)
      all = let e : i ≡ m = omega (arith, K.high) in K.is ∙ ap (λ (x : ℕ). keep_if (stays_by off marks) (edges_in x es₀)) e
