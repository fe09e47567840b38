-- The loops that move bytes, and the sequences after packing. Assumes nothing.
use mathlib.Core.Path.{◌≡◌, refl, sym, ap, ◌∙◌}
use mathlib.Core.Logic.{◌⊎◌, inl, inr, ⊎_elim}
use mathlib.Core.List.{List, [], ◌∷◌, ◌++◌}
use Prim.Native.Nat.{ℕ, zero, suc, ◌+◌, ◌*◌, ◌-◌, ◌≤◌, ◌<◌}
use native.Mathlib.Numerals.{add-one}
use native.Mathlib.Nat.{add-zero}
use native.Mathlib.Omega.{arith}
use native.Mathlib.Decide.{ℕ_discrete}
use lib.ListN.{length, get_or, set, length-set, take, drop}
use lib.Seq.{get_or-set_same, get_or-set_other, ext_get_or, get_or-take, get_or-drop}
use Rattle.defs.specs.Lists.{tab, sum}
use Rattle.tabs.proofs.Tabs.{tab-ext}
use Rattle.tabs.proofs.SumTabs.{sum-none, sum_more, sum_below}
use Rattle.store.specs.Store.{part, seq_in, seqs_in, Within}
use Rattle.store.proofs.VertexLaws.{part-long}
use Rattle.pool.specs.Pool.{Apart, Moved, bytes_in, Packable, Packed}

-- `&p[a..a + n]`
pub part-cut : (p : List ℕ) (a n : ℕ) → take (a + n - a) (drop a p) ≡ part p a n
part-cut p a n = ap (λ (k : ℕ). take k (drop a p)) (omega arith)

-- ---- copying

pub record Copying (p₀ : List ℕ) (to from n : ℕ) (p : List ℕ) (i : ℕ) : Type 0 where
  pub high : i ≤ n
  pub len : length p ≡ length p₀
  pub done : (j : ℕ) → j < i → get_or p (to + j) 0 ≡ get_or p₀ (from + j) 0
  pub before : (k : ℕ) → k < to → get_or p k 0 ≡ get_or p₀ k 0
  pub behind : (k : ℕ) → to + i ≤ k → get_or p k 0 ≡ get_or p₀ k 0

module _ {p₀ : List ℕ} {to from n : ℕ} where
  pub copying-start : Copying p₀ to from n p₀ 0
  copying-start = record { high = omega arith; len = refl; done = λ j h. absurd (omega arith); before = λ k h. refl; behind = λ k h. refl }

  pub copying-more : {p : List ℕ} {i : ℕ} → Apart p₀ to from n → Copying p₀ to from n p i → i < n
      → Copying p₀ to from n (set p (to + i) (get_or p (from + i) 0)) (i + 1)
  copying-more {p} {i} A C h = record {
    high = omega arith;
    len = length-set p _ _ ∙ C.len;
    done = λ j b. elim (ℕ_discrete j i) [
      | yes q ↦ rw q (get_or-set_same p (to + i) _ 0 (omega (arith, C.len, A.to_room)) ∙ source)
      | no ne ↦ get_or-set_other p (to + i) (to + j) _ 0 (λ z. ne (omega arith)) ∙ C.done j (omega arith)
    ];
    before = λ k b. get_or-set_other p (to + i) k _ 0 (λ z. omega arith) ∙ C.before k b;
    behind = λ k b. get_or-set_other p (to + i) k _ 0 (λ z. omega arith) ∙ C.behind k (omega arith);
  }
    where
      source : get_or p (from + i) 0 ≡ get_or p₀ (from + i) 0
      source = ⊎_elim (λ a. C.before (from + i) (omega arith)) (λ a. C.behind (from + i) (omega arith)) A.apart

  pub copying-end : {p : List ℕ} {i : ℕ} → Copying p₀ to from n p i → n ≤ i → Moved p₀ to from n p
  copying-end C h = record { copied = λ i b. C.done i (omega (arith, C.high)); before = C.before; behind = λ k b. C.behind k (omega (arith, C.high)) }

-- ---- sums of lengths

pub bytes_in-more : (v : ℕ) (vs : List ℕ) → bytes_in (v + 1) vs ≡ bytes_in v vs + get_or vs (2 * v + 1) 0
bytes_in-more v vs = sum_more v (λ (v : ℕ). get_or vs (2 * v + 1) 0)

pub bytes_in-none : (vs : List ℕ) → bytes_in 0 vs ≡ 0
bytes_in-none vs = sum-none (λ (v : ℕ). get_or vs (2 * v + 1) 0)

-- a vertex's bytes end before those of all
pub bytes_below : (n v : ℕ) (vs : List ℕ) → v < n → bytes_in v vs + get_or vs (2 * v + 1) 0 ≤ bytes_in n vs
bytes_below n v vs h = sum_below n v (λ (v : ℕ). get_or vs (2 * v + 1) 0) h

-- ---- gathering

pub record Gathering (base n : ℕ) (vs₀ p₀ vs p : List ℕ) (used v : ℕ) : Type 0 where
  pub high : v ≤ n
  pub vs-len : length vs ≡ length vs₀
  pub p-len : length p ≡ length p₀
  pub used-is : used ≡ bytes_in v vs₀
  pub starts : (u : ℕ) → u < v → get_or vs (2 * u) 0 ≡ bytes_in u vs₀
  pub sizes : (u : ℕ) → get_or vs (2 * u + 1) 0 ≡ get_or vs₀ (2 * u + 1) 0
  pub rest : (u : ℕ) → v ≤ u → get_or vs (2 * u) 0 ≡ get_or vs₀ (2 * u) 0
  pub below : (k : ℕ) → k < base → get_or p k 0 ≡ get_or p₀ k 0
  pub bytes : (u : ℕ) → u < v → (i : ℕ) → i < get_or vs₀ (2 * u + 1) 0 → get_or p (base + bytes_in u vs₀ + i) 0 ≡ get_or p₀ (get_or vs₀ (2 * u) 0 + i) 0

module _ {base n : ℕ} {vs₀ p₀ : List ℕ} (F : Packable n vs₀ p₀ base) where
  pub gathering-start : Gathering base n vs₀ p₀ vs₀ p₀ 0 0
  gathering-start = record {
    high = omega arith;
    vs-len = refl;
    p-len = refl;
    used-is = sym (bytes_in-none vs₀);
    starts = λ u h. absurd (omega arith);
    sizes = λ u. refl;
    rest = λ u h. refl;
    below = λ k h. refl;
    bytes = λ u h. absurd (omega arith);
  }

  -- what the copy of vertex v asks
  pub gathering-apart : {vs p : List ℕ} {used v start len : ℕ} → Gathering base n vs₀ p₀ vs p used v → v < n → start ≡ get_or vs (2 * v) 0
      → len ≡ get_or vs (2 * v + 1) 0 → Apart p (base + used) start len
  gathering-apart {vs} {p} {used} {v} {start} {len} G h qs ql =
      let w = F.within.at v h in
      let b = bytes_below n v vs₀ h in
      record {
        to_room = omega (arith, F.room, G.p-len, G.used-is, ql, G.sizes v, b);
        from-room = omega (arith, F.room, G.p-len, qs, ql, G.sizes v, G.rest v (omega arith), w);
        apart = inl (omega (arith, qs, ql, G.sizes v, G.rest v (omega arith), w));
      }

  pub gathering-more : {vs vs' p p' : List ℕ} {used v start len : ℕ} → Gathering base n vs₀ p₀ vs p used v → v < n → start ≡ get_or vs (2 * v) 0
      → len ≡ get_or vs (2 * v + 1) 0
      → Moved p (base + used) start len p' → length p' ≡ length p → vs' ≡ set vs (2 * v) used
      → Gathering base n vs₀ p₀ vs' p' (used + len) (v + 1)
  gathering-more {vs} {vs'} {p} {p'} {used} {v} {start} {len} G h qs ql M l e =
      let w = F.within.at v h in
      record {
        high = omega arith;
        vs-len = ap length e ∙ length-set vs _ _ ∙ G.vs-len;
        p-len = l ∙ G.p-len;
        used-is = omega (arith, G.used-is, bytes_in-more v vs₀, ql, G.sizes v);
        starts = λ u b. elim (ℕ_discrete u v) [
          | yes q ↦ rw q (ap (λ (x : List ℕ). get_or x (2 * v) 0) e ∙ get_or-set_same vs (2 * v) used 0 (omega (arith, G.vs-len, F.vs-room)) ∙ G.used-is)
          | no ne ↦ other (2 * u) (λ z. ne (omega arith)) ∙ G.starts u (omega arith)
        ];
        sizes = λ u. other (2 * u + 1) (λ z. omega arith) ∙ G.sizes u;
        rest = λ u b. other (2 * u) (λ z. omega arith) ∙ G.rest u (omega arith);
        below = λ k b. M.before k (omega arith) ∙ G.below k b;
        bytes = λ u b i c. elim (ℕ_discrete u v) [
          | yes q ↦ rw q (here i (rw q at c))
          | no ne ↦ M.before (base + bytes_in u vs₀ + i) (omega (arith, bytes_below v u vs₀ (omega arith), G.used-is)) ∙ G.bytes u (omega arith) i c
        ];
      }
    where
      other : (k : ℕ) → (k ≡ 2 * v → ⊥) → get_or vs' k 0 ≡ get_or vs k 0
      other k z = ap (λ (x : List ℕ). get_or x k 0) e ∙ get_or-set_other vs (2 * v) k used 0 z

      here : (i : ℕ) → i < get_or vs₀ (2 * v + 1) 0 → get_or p' (base + bytes_in v vs₀ + i) 0 ≡ get_or p₀ (get_or vs₀ (2 * v) 0 + i) 0
      here i c =
          ap (λ (x : ℕ). get_or p' (base + x + i) 0) (sym G.used-is) ∙ M.copied i (omega (arith, ql, G.sizes v))
          ∙ ap (λ (x : ℕ). get_or p (x + i) 0) (qs ∙ G.rest v (omega arith)) ∙ G.below (get_or vs₀ (2 * v) 0 + i) (omega (arith, F.within.at v h))

  pub gathering-end : {vs p : List ℕ} {used v : ℕ} → Gathering base n vs₀ p₀ vs p used v → n ≤ v → Packed base n vs₀ p₀ used vs p
  gathering-end {vs} {p} {used} {v} G h =
      let q : v ≡ n = omega (arith, G.high) in
      record {
        used-is = G.used-is ∙ ap (λ (x : ℕ). bytes_in x vs₀) q;
        starts = λ u b. G.starts u (omega arith);
        sizes = λ u b. G.sizes u;
        bytes = λ u b. G.bytes u (omega arith);
      }

  -- and down to the front
  pub packed-front : {vs p p' : List ℕ} {used : ℕ} → Packed base n vs₀ p₀ used vs p → Moved p 0 base used p' → Packed 0 n vs₀ p₀ used vs p'
  packed-front {vs} {p} {p'} {used} P M = record {
    used-is = P.used-is;
    starts = P.starts;
    sizes = P.sizes;
    bytes = λ v h i c. ap (λ (x : ℕ). get_or p' x 0) (omega arith)
        ∙ M.copied (bytes_in v vs₀ + i) (omega (arith, P.used-is, bytes_below n v vs₀ h)) ∙ ap (λ (x : ℕ). get_or p x 0) (omega arith)
        ∙ P.bytes v h i c;
  }

-- ---- the sequences, after packing

pub part_same : (p p' : List ℕ) (a b n : ℕ) → a + n ≤ length p → b + n ≤ length p'
    → ((i : ℕ) → i < n → get_or p' (b + i) 0 ≡ get_or p (a + i) 0) → part p' b n ≡ part p a n
part_same p p' a b n ha hb e = ext_get_or 0 _ _
    (part-long p' b n hb ∙ sym (part-long p a n ha))
    (λ i h. let c : i < n = omega (arith, h, part-long p' b n hb) in get_or-take n (drop b p') i 0 c ∙ get_or-drop b p' i 0 ∙ e i c
    ∙ sym (get_or-take n (drop a p) i 0 c ∙ get_or-drop a p i 0))

module _ {n : ℕ} {vs p vs' p' : List ℕ} {used : ℕ} (P : Packed 0 n vs p used vs' p') (W : Within (length p) n vs) (room : used ≤ length p') where
  pub packed-seqs : seqs_in n vs' p' ≡ seqs_in n vs p
  packed-seqs = tab-ext n (seq_in vs' p') (seq_in vs p) (λ v h.
      rw (P.starts v h, P.sizes v h) (part_same p p' (get_or vs (2 * v) 0) (bytes_in v vs) (get_or vs (2 * v + 1) 0) (W.at v h)
      (omega (arith, P.used-is, bytes_below n v vs h, room)) (λ i c. ap (λ (x : ℕ). get_or p' x 0) (omega arith) ∙ P.bytes v h i c)))

  pub packed-within : Within used n vs'
  packed-within = record { at = λ v h. omega (arith, P.starts v h, P.sizes v h, P.used-is, bytes_below n v vs h) }
