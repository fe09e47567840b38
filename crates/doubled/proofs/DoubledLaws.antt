-- The marks along a vertex's edges, and the definition's doubled edge. Assumes nothing.
use mathlib.Core.Path.{◌≡◌, refl, sym, ap, ◌∙◌}
use mathlib.Core.Bool.{Bool, true, false}
use mathlib.Core.List.{List}
use Prim.Native.Nat.{ℕ, zero, suc, ◌+◌, ◌*◌, ◌≤◌, ◌<◌}
use native.Mathlib.Omega.{arith}
use native.Mathlib.Decide.{ℕ_discrete}
use lib.ListN.{length, get_or, set, length-set}
use lib.Seq.{get_or-set_same, get_or-set_other}
use Rattle.laws.proofs.Walks.{by_test}
use Rattle.laws.proofs.ListLaws.{clash, by_order, or_right}
use Rattle.laws.proofs.Edges.{joins-ends}
use Rattle.laws.proofs.Counts.{ends_join}
use Rattle.defs.specs.Lists.{tab_from, any_of}
use Rattle.defs.specs.SeqGraph.{Edge, has_ends}
use Rattle.defs.specs.Refusals.{doubled_edge}
use Rattle.store.specs.Store.{edge_in, edges_in, EndsBelow}
use Rattle.index.specs.Index.{edge_end, pair_at, Index, Indexed}
use Rattle.index.proofs.IndexLaws.{pair-first, end-first}
use Rattle.doubled.specs.Doubled.{Twins, Markable, Stale, DoubledFrom}

-- ---- the marks, when the edges of v before number e have been passed

-- an edge of v before number e that enters t
pub record Seen (es : List ℕ) (v t e : ℕ) : Type 0 where
  pub by : ℕ
  pub low : by < e
  pub from : edge_end 0 es by ≡ v
  pub to : edge_end 1 es by ≡ t

pub record MarkingTargets (m n : ℕ) (es : List ℕ) (v : ℕ) (marks₀ marks : List ℕ) (e : ℕ) : Type 0 where
  pub high : e ≤ m
  pub hit : e < m → edge_end 0 es e ≡ v
  pub len : length marks ≡ length marks₀
  pub stale : Stale n (v + 1) marks
  pub seen : (t : ℕ) → t < n → get_or marks t 0 ≡ v + 1 → Seen es v t e
  pub noted : (j : ℕ) → j < e → edge_end 0 es j ≡ v → get_or marks (edge_end 1 es j) 0 ≡ v + 1
  pub single : (i j : ℕ) → i < j → j < e → edge_end 0 es i ≡ v → edge_end 0 es j ≡ v → edge_end 1 es i ≡ edge_end 1 es j → ⊥

module _ {m n : ℕ} {es heads nexts : List ℕ} (X : Indexed m n es heads nexts) where
  out : Index (edge_end 0 es) m n (pair_at 0 heads) (pair_at 0 nexts)
  out = X.index 0 (omega arith)

  pub marking-start : {v : ℕ} {marks₀ : List ℕ} {e : ℕ} → e ≡ get_or heads (2 * v) 0 → v < n → Stale n v marks₀ → MarkingTargets m n es v marks₀ marks₀ e
  marking-start {v} q h S = let N = out.heads v h in rw (q ∙ pair-first heads v) (record {
    high = N.high;
    hit = N.hit;
    len = refl;
    stale = record { at = λ t b. omega (arith, S.at t b) };
    seen = λ t b q. absurd (omega (arith, S.at t b));
    noted = λ j b q. absurd (N.skip j (omega arith) b q);
    single = λ i j a b p q s. N.skip j (omega arith) b q;
  })

  module _ {v : ℕ} {marks₀ marks : List ℕ} {e : ℕ} (M : MarkingTargets m n es v marks₀ marks e) (h : e < m) where
    entered : edge_end 1 es e < n
    entered = (X.ends.at e h).1

    pub marking-found : {to : ℕ} → to ≡ edge_end 1 es e → get_or marks to 0 ≡ v + 1 → DoubledFrom m n es v true marks
    marking-found w q = let s = M.seen (edge_end 1 es e) entered (ap (λ (x : ℕ). get_or marks x 0) (sym w) ∙ q) in record {
      yes = λ t. record { first = s.by; second = e; order = s.low; below = h; from_first = s.from; from_second = M.hit h; to_same = s.to };
      no = λ t. clash refl t;
      stale = M.stale;
    }

    -- an edge of v before the next one
    passed : {Y : Type 0} (j : ℕ) → j < pair_at 0 nexts e → edge_end 0 es j ≡ v → (j < e → Y) → (j ≡ e → Y) → Y
    passed j b q old new = elim (ℕ_discrete j e) [
      | yes p ↦ new p
      | no ne ↦ by_order e j (λ l. absurd ((out.nexts e h).skip j (omega arith) b (q ∙ sym (M.hit h)))) old
    ]

    module _ {to : ℕ} (is-to : to ≡ edge_end 1 es e) (fresh : get_or marks to 0 ≡ v + 1 → ⊥) (room : n ≤ length marks₀) where
      stored : get_or (set marks (edge_end 1 es e) (v + 1)) (edge_end 1 es e) 0 ≡ v + 1
      stored = get_or-set_same marks (edge_end 1 es e) (v + 1) 0 (omega (arith, entered, M.len))

      marks-stale : (t : ℕ) → t < n → get_or (set marks (edge_end 1 es e) (v + 1)) t 0 ≤ v + 1
      marks-stale t b = elim (ℕ_discrete t (edge_end 1 es e)) [
        | yes p ↦ rw p (omega (arith, stored))
        | no ne ↦ rw (get_or-set_other marks (edge_end 1 es e) t (v + 1) 0 ne) (M.stale.at t b)
      ]

      marks-seen : (t : ℕ) → t < n → get_or (set marks (edge_end 1 es e) (v + 1)) t 0 ≡ v + 1 → Seen es v t (pair_at 0 nexts e)
      marks-seen t b q = let low = (out.nexts e h).low in elim (ℕ_discrete t (edge_end 1 es e)) [
        | yes p ↦ record { by = e; low = omega arith; from = M.hit h; to = sym p }
        | no ne ↦ (let s = M.seen t b (sym (get_or-set_other marks (edge_end 1 es e) t (v + 1) 0 ne) ∙ q) in
            record { by = s.by; low = omega (arith, s.low); from = s.from; to = s.to })
      ]

      marks-noted : (j : ℕ) → j < pair_at 0 nexts e → edge_end 0 es j ≡ v → get_or (set marks (edge_end 1 es e) (v + 1)) (edge_end 1 es j) 0 ≡ v + 1
      marks-noted j b q = elim (ℕ_discrete (edge_end 1 es j) (edge_end 1 es e)) [
        | yes p ↦ ap (λ (x : ℕ). get_or (set marks (edge_end 1 es e) (v + 1)) x 0) p ∙ stored
        | no ne ↦ get_or-set_other marks (edge_end 1 es e) (edge_end 1 es j) (v + 1) 0 ne ∙ passed j b q (λ l. M.noted j l q) (λ p. absurd (ne (ap (edge_end 1 es) p)))
      ]

      marks-single : (i j : ℕ) → i < j → j < pair_at 0 nexts e → edge_end 0 es i ≡ v → edge_end 0 es j ≡ v → edge_end 1 es i ≡ edge_end 1 es j → ⊥
      marks-single i j a b p q s = passed j b q
          (λ l. M.single i j a l p q s)
          (λ (w : j ≡ e). fresh (ap (λ (x : ℕ). get_or marks x 0) (is-to ∙ sym (s ∙ ap (edge_end 1 es) w)) ∙ M.noted i (omega arith) p))

      pub marking-more : {e' : ℕ} → e' ≡ get_or nexts (2 * e) 0 → MarkingTargets m n es v marks₀ (set marks to (v + 1)) e'
      marking-more q = rw (is-to, q ∙ pair-first nexts e) (record {
        high = (out.nexts e h).high;
        hit = λ b. (out.nexts e h).hit b ∙ M.hit h;
        len = length-set marks (edge_end 1 es e) (v + 1) ∙ M.len;
        stale = record { at = marks-stale };
        seen = marks-seen;
        noted = marks-noted;
        single = marks-single;
      })

    -- the list goes on behind e
    pub next-later : e < get_or nexts (2 * e) 0
    next-later = omega (arith, (out.nexts e h).low, pair-first nexts e)

  pub marking-end : {v : ℕ} {marks₀ marks : List ℕ} {e : ℕ} → MarkingTargets m n es v marks₀ marks e → m ≤ e → DoubledFrom m n es v false marks
  marking-end M l = record {
    yes = λ t. clash t refl;
    no = λ t T. M.single T.first T.second T.order (omega (arith, T.below)) T.from_first T.from_second T.to_same;
    stale = M.stale;
  }

-- ---- the definition's doubled edge, by index

any-from : {A : Type 0} (p : A → Bool) (s n : ℕ) (f : ℕ → A) (k : ℕ) → s ≤ k → k < s + n → p (f k) ≡ true → any_of p (tab_from s n f) ≡ true
unfolding tab_from any_of
any-from p s zero f k a b t = absurd (omega arith)
any-from p s (suc n) f k a b t = by_test (p (f s)) (λ u. rw (u, any_of)) (λ u. rw (u, any_of) (any-from p (suc s) n f k (later u) (omega arith) t))
  where
    later : p (f s) ≡ false → suc s ≤ k
    later u = elim (ℕ_discrete k s) [ yes q ↦ clash t (ap (λ (x : ℕ). p (f x)) q ∙ u) | no ne ↦ omega arith ]

none_from : {A : Type 0} (p : A → Bool) (s n : ℕ) (f : ℕ → A) → ((k : ℕ) → s ≤ k → k < s + n → p (f k) ≡ false) → any_of p (tab_from s n f) ≡ false
unfolding tab_from any_of
none_from p s zero f o = refl
none_from p s (suc n) f o = rw (o s (omega arith) (omega arith), any_of) (none_from p (suc s) n f (λ k a b. o k (omega arith) (omega arith)))

module _ (f : ℕ → Edge) where
  abbrev twin : ℕ → ℕ → Bool
  twin i j = has_ends (f i).from (f i).to (f j)

  doubled-from : (s n i j : ℕ) → s ≤ i → i < j → j < s + n → twin i j ≡ true → doubled_edge (tab_from s n f) ≡ true
  unfolding tab_from doubled_edge
  doubled-from s zero i j a b c t = absurd (omega arith)
  doubled-from s (suc n) i j a b c t = elim (ℕ_discrete i s) [
    | yes q ↦ rw (any-from (has_ends (f s).from (f s).to) (suc s) n f j (omega arith) (omega arith) (rw q at t))
    | no ne ↦ or_right (any_of (has_ends (f s).from (f s).to) (tab_from (suc s) n f)) _ (doubled-from (suc s) n i j (omega arith) b (omega arith) t)
  ]

  single-from : (s n : ℕ) → ((i j : ℕ) → s ≤ i → i < j → j < s + n → twin i j ≡ false) → doubled_edge (tab_from s n f) ≡ false
  unfolding tab_from doubled_edge
  single-from s zero o = refl
  single-from s (suc n) o =
      rw (none_from (has_ends (f s).from (f s).to) (suc s) n f (λ k a b. o s k (omega arith) (omega arith) (omega arith)))
      (single-from (suc s) n (λ i j a b c. o i j (omega arith) b (omega arith)))

pub twins-doubled : {m : ℕ} {es : List ℕ} {v : ℕ} → Twins m es v → true ≡ doubled_edge (edges_in m es)
twins-doubled {m} {es} T =
    sym (doubled-from (edge_in es) 0 m T.first T.second (omega arith) T.order (omega (arith, T.below))
    (ends_join _ _ (edge_in es T.second) (sym (end-first es T.first) ∙ T.from_first ∙ sym T.from_second ∙ end-first es T.second) T.to_same))

pub twinless : {m n : ℕ} {es : List ℕ} → EndsBelow n m es → ((v : ℕ) → v < n → Twins m es v → ⊥) → false ≡ doubled_edge (edges_in m es)
twinless {m} {n} {es} E o = sym (single-from (edge_in es) 0 m (λ i j a b c.
    by_test (has_ends (get_or es (4 * i) 0) (get_or es (4 * i + 1) 0) (edge_in es j)) (λ t. absurd (none i j b (omega arith) t)) (λ t. t)))
  where
    none : (i j : ℕ) → i < j → j < m → has_ends (get_or es (4 * i) 0) (get_or es (4 * i + 1) 0) (edge_in es j) ≡ true → ⊥
    none i j b c t =
        let q = joins-ends (get_or es (4 * i) 0) (get_or es (4 * i + 1) 0) (edge_in es j) t in
        o (edge_end 0 es i) (omega (arith, end-first es i, (E.at i (omega arith)).0))
        record { first = i; second = j; order = b; below = c; from_first = refl; from_second = end-first es j ∙ q.0 ∙ sym (end-first es i); to_same = sym q.1 }

-- ---- the scan over the vertices

pub record ScanningEdges (m n : ℕ) (es marks₀ marks : List ℕ) (v : ℕ) : Type 0 where
  pub high : v ≤ n
  pub len : length marks ≡ length marks₀
  pub stale : Stale n v marks
  pub none : (u : ℕ) → u < v → Twins m es u → ⊥

pub scanning-start : {m n : ℕ} {es marks₀ marks : List ℕ} → length marks ≡ length marks₀ → ((k : ℕ) → k < n → get_or marks k 0 ≡ 0)
    → ScanningEdges m n es marks₀ marks 0
scanning-start l z = record { high = omega arith; len = l; stale = record { at = λ t b. omega (arith, z t b) }; none = λ u b. absurd (omega arith) }

pub scanning-more : {m n : ℕ} {es marks₀ marks marks' : List ℕ} {v : ℕ} {r : Bool} → ScanningEdges m n es marks₀ marks v → v < n → length marks'
    ≡ length marks → DoubledFrom m n es v r marks' → r ≡ false
    → ScanningEdges m n es marks₀ marks' (v + 1)
scanning-more {v = v} S h l D f = record {
  high = omega arith;
  len = l ∙ S.len;
  stale = D.stale;
  none = λ u b T. elim (ℕ_discrete u v) [ yes q ↦ D.no f (rw q at T) | no ne ↦ S.none u (omega arith) T ];
}

pub markable-kept : {n : ℕ} {marks marks' : List ℕ} → Markable n marks → length marks' ≡ length marks → Markable n marks'
markable-kept K l = record { room = omega (arith, K.room); small = K.small }
