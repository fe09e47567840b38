-- The loops of a zip. Assumes nothing.
use mathlib.Core.Path.{◌≡◌, refl, sym, ap, ◌∙◌}
use mathlib.Core.List.{List, ◌++◌}
use Prim.Native.Nat.{ℕ, ◌+◌, ◌*◌, ◌≤◌, ◌<◌}
use native.Mathlib.Omega.{arith}
use native.Mathlib.Decide.{ℕ_discrete}
use lib.ListN.{length, get_or, set, take, length-set, length-append}
use lib.Seq.{get_or-set_same, get_or-set_other, length-take-le}
use Rattle.tabs.proofs.Tabs.{tab-ext, set_more, take-tab}
use Rattle.std.proofs.lemmas.Slice.{take-put_mid}
use borrow.Rule.Slice.PartMut.{put_mid, post_of}
use Rattle.tabs.proofs.SumTabs.{map-tab}
use Rattle.store.specs.Store.{edge, edge_in, EndsBelow}
use Rattle.zip_linear_chains.specs.Loops.{EachItsOwn, edge_with_from, AllEdgesMoved, NodesAppended}

-- ---- own_froms

pub record Owning (n v : ℕ) (froms₀ froms : List ℕ) : Type 0 where
  pub high : v ≤ n
  pub len : length froms ≡ length froms₀
  pub done : (u : ℕ) → u < v → get_or froms u 0 ≡ u

pub owning-start : (n : ℕ) (froms : List ℕ) → Owning n 0 froms froms
owning-start n froms = record { high = omega arith; len = refl; done = λ u b. absurd (omega arith) }

pub owning-more : {n v : ℕ} {froms₀ froms : List ℕ} → Owning n v froms₀ froms → v < n → n ≤ length froms₀ → (x : ℕ) → x ≡ v
    → Owning n (v + 1) froms₀ (set froms v x)
owning-more {n} {v} {froms₀} {froms} O h r x q = record {
  high = omega arith;
  len = length-set froms v x ∙ O.len;
  done = set_more (λ k y. y ≡ k) froms v x (omega (arith, O.len)) O.done q;
}

pub owning-end : {n v : ℕ} {froms₀ froms : List ℕ} → Owning n v froms₀ froms → n ≤ v → EachItsOwn n froms
owning-end O h = record { at = λ u b. O.done u (omega arith) }

-- ---- move_all_edges

pub record MovingAll (m : ℕ) (es₀ froms : List ℕ) (e : ℕ) (es : List ℕ) : Type 0 where
  pub high : e ≤ m
  pub len : length es ≡ length es₀
  pub done : (j : ℕ) → j < e → get_or es (4 * j) 0 ≡ get_or froms (get_or es₀ (4 * j) 0) 0
  pub rest : (j : ℕ) → e ≤ j → get_or es (4 * j) 0 ≡ get_or es₀ (4 * j) 0
  pub to-kept : (j : ℕ) → get_or es (4 * j + 1) 0 ≡ get_or es₀ (4 * j + 1) 0
  pub support-kept : (j : ℕ) → get_or es (4 * j + 2) 0 ≡ get_or es₀ (4 * j + 2) 0
  pub flag-kept : (j : ℕ) → get_or es (4 * j + 3) 0 ≡ get_or es₀ (4 * j + 3) 0

pub moving-all-start : (m : ℕ) (es froms : List ℕ) → MovingAll m es froms 0 es
moving-all-start m es froms = record {
  high = omega arith;
  len = refl;
  done = λ j b. absurd (omega arith);
  rest = λ j b. refl;
  to-kept =
      λ j. refl;
  support-kept = λ j. refl;
  flag-kept = λ j. refl;
}

pub moving-from-below : {m n : ℕ} {es₀ froms : List ℕ} {e : ℕ} {es : List ℕ} → MovingAll m es₀ froms e es → e < m → EndsBelow n m es₀
    → {x : ℕ} → x ≡ get_or es (4 * e) 0 → x < n
moving-from-below {e = e} L h B q = omega (arith, q, L.rest e (omega arith), (B.at e h).0)

pub moving-all-more : {m : ℕ} {es₀ froms : List ℕ} {e : ℕ} {es : List ℕ} → MovingAll m es₀ froms e es → e < m → 4 * m ≤ length es₀
    → {es' : List ℕ} (x : ℕ) → x ≡ get_or froms (get_or es (4 * e) 0) 0 → es' ≡ set es (4 * e) x → MovingAll m es₀ froms (e + 1) es'
moving-all-more {m} {es₀} {froms} {e} {es} L h r x q put = rw put (record {
  high = omega arith;
  len = length-set es (4 * e) x ∙ L.len;
  done = λ j b. elim (ℕ_discrete j e) [
    | yes y ↦ rw y (get_or-set_same es (4 * e) x 0 (omega (arith, L.len)) ∙ (q ∙ ap (λ (z : ℕ). get_or froms z 0) (L.rest e (omega arith))))
    | no ne ↦ get_or-set_other es (4 * e) (4 * j) x 0 (λ w. ne (omega arith)) ∙ L.done j (omega arith)
  ];
  rest = λ j b. get_or-set_other es (4 * e) (4 * j) x 0 (λ w. omega arith) ∙ L.rest j (omega arith);
  to-kept = λ j. get_or-set_other es (4 * e) (4 * j + 1) x 0 (λ w. omega arith) ∙ L.to-kept j;
  support-kept = λ j. get_or-set_other es (4 * e) (4 * j + 2) x 0 (λ w. omega arith) ∙ L.support-kept j;
  flag-kept = λ j. get_or-set_other es (4 * e) (4 * j + 3) x 0 (λ w. omega arith) ∙ L.flag-kept j;
})

pub moving-all-end : {m : ℕ} {es₀ froms : List ℕ} {e : ℕ} {es : List ℕ} → MovingAll m es₀ froms e es → m ≤ e → AllEdgesMoved m es₀ froms es
moving-all-end {m} {es₀} {froms} {e} {es} L h = record {
  is = tab-ext m (edge_in es) (λ (i : ℕ). edge_with_from froms (edge_in es₀ i)) each
      ∙ sym (map-tab (edge_with_from froms) m (edge_in es₀));
}
  where
    each : (j : ℕ) → j < m → edge_in es j ≡ edge_with_from froms (edge_in es₀ j)
    each j b = λ i. edge (L.done j (omega arith) i) (L.to-kept j i) (L.support-kept j i) (L.flag-kept j i)

-- ---- append_nodes

-- a part of dst becomes the first c of src
pub appended : (k c j : ℕ) (dst src ys : List ℕ) → k + c ≤ length dst → c ≤ length src → ys ≡ take c src → NodesAppended k c dst src (put_mid k j dst ys)
appended k c j dst src ys room h q =
    let l : length ys ≡ c = ap length q ∙ length-take-le c src h in
    record {
      is = sym (take-tab (put_mid k j dst ys) 0 (k + c) (omega (
        arith,
        l,
        length-append (take k dst) (ys ++ post_of k j dst),
        length-append ys (post_of k j dst),
        length-take-le k dst (omega arith),
      )))
          ∙ take-put_mid k j dst ys (k + c) (omega arith) (omega arith)
          ∙ (λ t. take-tab dst 0 k (omega arith) t ++ (q ∙ take-tab src 0 c h) t);
    }
