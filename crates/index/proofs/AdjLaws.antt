-- How an index is built from the back, and how it is followed. Assumes nothing.
use mathlib.Core.Path.{◌≡◌, refl, sym, ap, ◌∙◌, subst}
use mathlib.Core.Bool.{Bool, true, false}
use mathlib.Core.List.{List, [], ◌∷◌}
use mathlib.Core.Logic.{◌≢◌}
use Prim.Native.Nat.{ℕ, zero, suc, ◌+◌, ◌-◌, ◌≤◌, ◌<◌}
use native.Mathlib.Nat.{add-suc, add-zero, suc-add, le_refl}
use native.Mathlib.Numerals.{add-one}
use native.Mathlib.Omega.{arith}
use native.Mathlib.Decide.{ℕ_discrete}
use lib.ListN.{length, get_or, set, length-set}
use lib.Seq.{get_or-set_same, get_or-set_other}
use lib.Dec.{eqb}
use borrow.Author.Tests.{eq-eqb, ne_eqb}
use Rattle.defs.specs.Lists.{tab_from, keep_if, all_of}
use Rattle.index.specs.Index.{at_from, incident_edges, Next, Index}

module _ (f : ℕ → ℕ) (m v : ℕ) where
  -- an edge at v is the first of what is left
  pub at-hit : (k : ℕ) → k < m → f k ≡ v → at_from f m v k ≡ k ∷ at_from f m v (k + 1)
  unfolding tab_from keep_if
  at-hit k h q =
      let d : m - k ≡ suc (m - (k + 1)) = omega arith in
      rw d (rw (eq-eqb (f k) v q) (ap (λ (j : ℕ). k ∷ keep_if (λ (e : ℕ). eqb (f e) v) (tab_from j (m - (k + 1)) (λ (e : ℕ). e))) (sym (add-one k))))

  -- another edge is passed over
  pub at-miss : (k : ℕ) → k < m → (f k ≡ v → ⊥) → at_from f m v k ≡ at_from f m v (k + 1)
  unfolding tab_from keep_if
  at-miss k h q =
      let d : m - k ≡ suc (m - (k + 1)) = omega arith in
      rw d (rw (ne_eqb (f k) v q) (ap (λ (j : ℕ). keep_if (λ (e : ℕ). eqb (f e) v) (tab_from j (m - (k + 1)) (λ (e : ℕ). e))) (sym (add-one k))))

  pub at-end : (k : ℕ) → m ≤ k → at_from f m v k ≡ []
  unfolding tab_from keep_if
  at-end k h = let d : m - k ≡ 0 = omega arith in rw d

  at-skip : (n k : ℕ) → k + n ≤ m → ((j : ℕ) → k ≤ j → j < k + n → f j ≡ v → ⊥) → at_from f m v k ≡ at_from f m v (k + n)
  at-skip zero k h o = ap (at_from f m v) (sym (add-zero k))
  at-skip (suc n) k h o =
      at-miss k (omega (arith, add-suc k n)) (o k (omega arith) (omega (arith, add-suc k n)))
      ∙ at-skip n (k + 1) (omega (arith, add-suc k n)) (λ j a b. o j (omega arith) (omega (arith, add-suc k n)))
      ∙ ap (at_from f m v) (omega (arith, add-suc k n))

  -- what is left from k on is what is left from the next edge on
  pub at_next : (k e : ℕ) → Next f m v k e → at_from f m v k ≡ at_from f m v e
  at_next k e N =
      let d : k + (e - k) ≡ e = omega arith in
      at-skip (e - k) k (omega arith) (λ j a b. N.skip j a (omega arith)) ∙ ap (at_from f m v) d

-- a step along the index
pub at-step : (f : ℕ → ℕ) (m n : ℕ) (head next : ℕ → ℕ) (v e : ℕ) → Index f m n head next → e < m → f e ≡ v
    → at_from f m v e ≡ e ∷ at_from f m v (next e)
at-step f m n head next v e I h q =
    at-hit f m v e h q ∙ ap (λ (r : List ℕ). e ∷ r) (at_next f m v (e + 1) (next e) (rw q at (I.nexts e h)))

pub at_head : (f : ℕ → ℕ) (m n : ℕ) (head next : ℕ → ℕ) (v : ℕ) → Index f m n head next → v < n → incident_edges f m v ≡ at_from f m v (head v)
at_head f m n head next v I h = at_next f m v 0 (head v) (I.heads v h)

-- ---- building the index from the back: it is right from number k on
pub record Built (f : ℕ → ℕ) (m n : ℕ) (head next : ℕ → ℕ) (k : ℕ) : Type 0 where
  pub low : k ≤ m
  pub heads : (v : ℕ) → v < n → Next f m v k (head v)
  pub nexts : (e : ℕ) → k ≤ e → e < m → Next f m (f e) (e + 1) (next e)

module _ {f : ℕ → ℕ} {m n : ℕ} where
  pub built-start : {head next : ℕ → ℕ} → ((v : ℕ) → v < n → head v ≡ m) → Built f m n head next m
  built-start h = record {
    low = le_refl m;
    heads = λ v b. rw (h v b) (record { low = le_refl m; high = le_refl m; skip = λ j x y q. omega arith; hit = λ x. absurd (omega arith) });
    nexts = λ e a b. absurd (omega arith);
  }

  -- the turn at edge e
  pub built-more : {head next head' next' : ℕ → ℕ} {k : ℕ} (e : ℕ) → Built f m n head next k → k ≡ e + 1 → f e < n
      → head' (f e) ≡ e → ((v : ℕ) → v < n → (v ≡ f e → ⊥) → head' v ≡ head v) → next' e ≡ head (f e) → ((d : ℕ) → (d ≡ e → ⊥) → next' d ≡ next d)
      → Built f m n head' next' e
  built-more {head} {next} {head'} {next'} {k} e B q below h₁ h₂ n₁ n₂ = record { low = omega arith; heads = hs; nexts = ns }
    where
      k-is : e < m
      k-is = omega arith

      hs : (v : ℕ) → v < n → Next f m v e (head' v)
      hs v b = elim (ℕ_discrete v (f e)) [
        | yes p ↦ rw (p, h₁) (record { low = le_refl e; high = omega arith; skip = λ j x y r. omega arith; hit = λ x. refl })
        | no ne ↦ rw (h₂ v b ne) (let N = B.heads v b in record {
          low = omega arith;
          high = N.high;
          skip = λ j x y r. elim (ℕ_discrete j e) [ yes p ↦ ne (sym r ∙ ap f p) | no o ↦ N.skip j (omega arith) y r ];
          hit = N.hit;
        })
      ]

      ns : (d : ℕ) → e ≤ d → d < m → Next f m (f d) (d + 1) (next' d)
      ns d a b = elim (ℕ_discrete d e) [
        | yes p ↦ rw (p, n₁, ← q) (B.heads (f e) below)
        | no ne ↦ rw (n₂ d ne) (B.nexts d (omega arith) b)
      ]

  pub built-done : {head next : ℕ → ℕ} {k : ℕ} → Built f m n head next k → k ≤ 0 → Index f m n head next
  built-done {k = k} B z = record {
    heads = λ v h. let q : k ≡ 0 = omega arith in rw q at (B.heads v h);
    nexts = λ e h. B.nexts e (omega arith) h;
  }

-- ---- following the index from v's first edge: d edges are passed, and e is the next
pub record ListWalked (f : ℕ → ℕ) (m v d e : ℕ) : Type 0 where
  pub low : d ≤ e
  pub high : e ≤ m
  pub hit : e < m → f e ≡ v
  pub left : d + length (at_from f m v e) ≡ length (incident_edges f m v)

module _ {f : ℕ → ℕ} {m n : ℕ} {head next : ℕ → ℕ} {v : ℕ} (I : Index f m n head next) where
  pub walked_start : v < n → ListWalked f m v 0 (head v)
  walked_start h = let N = I.heads v h in record {
    low = omega arith;
    high = N.high;
    hit = N.hit;
    left =
        omega (arith, ap length (at_head f m n head next v I h));
  }

  pub walked_more : {d e : ℕ} → ListWalked f m v d e → e < m → ListWalked f m v (d + 1) (next e)
  walked_more {d} {e} W h = let N = I.nexts e h in record {
    low = omega (arith, N.low);
    high = N.high;
    hit = λ b. N.hit b ∙ W.hit h;
    left = omega (arith, W.left, ap length (at-step f m n head next v e I h (W.hit h)));
  }

  pub walked_end : {d e : ℕ} → ListWalked f m v d e → m ≤ e → d ≡ length (incident_edges f m v)
  walked_end {d} {e} W h = omega (arith, W.left, ap length (at-end f m v e h))

-- ---- a test of all edges at v, by the index: it is what is left from e on
pub record Testing (f : ℕ → ℕ) (m v : ℕ) (p : ℕ → Bool) (e : ℕ) : Type 0 where
  pub high : e ≤ m
  pub hit : e < m → f e ≡ v
  pub left : all_of p (incident_edges f m v) ≡ all_of p (at_from f m v e)

module _ {f : ℕ → ℕ} {m n : ℕ} {head next : ℕ → ℕ} {v : ℕ} (I : Index f m n head next) (p : ℕ → Bool) where
  pub testing-start : v < n → Testing f m v p (head v)
  testing-start h = let N = I.heads v h in record { high = N.high; hit = N.hit; left = ap (all_of p) (at_head f m n head next v I h) }

  pub testing-more : {e : ℕ} → Testing f m v p e → e < m → p e ≡ true → Testing f m v p (next e)
  unfolding all_of
  testing-more {e} W h q = let N = I.nexts e h in record {
    high = N.high;
    hit = λ b. N.hit b ∙ W.hit h;
    left = W.left ∙ ap (all_of p) (at-step f m n head next v e I h (W.hit h)) ∙ rw (q, all_of);
  }

  pub testing-fails : {e : ℕ} → Testing f m v p e → e < m → p e ≡ false → false ≡ all_of p (incident_edges f m v)
  unfolding all_of
  testing-fails {e} W h q = sym (W.left ∙ ap (all_of p) (at-step f m n head next v e I h (W.hit h)) ∙ rw (q, all_of))

  pub testing-end : {e : ℕ} → Testing f m v p e → m ≤ e → true ≡ all_of p (incident_edges f m v)
  unfolding all_of
  testing-end {e} W h = sym (W.left ∙ ap (all_of p) (at-end f m v e h))
