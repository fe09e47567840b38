-- What is reached: a vertex is, exactly when a way leads to it.
-- Assumes nothing.
use Prim.Native.Nat.{ℕ, zero, suc, ◌≤◌, ◌<◌}
use native.Mathlib.Omega.{arith}
use mathlib.Core.Path.{◌≡◌, refl, ap}
use mathlib.Core.Logic.{◌⊎◌, inl, inr, ⊎_elim}
use mathlib.Core.Bool.{Bool, true, ◌||◌}
use mathlib.Core.List.Memᴰ
use mathlib.Core.List.{List, [], ◌∷◌, Memᴰ}
use lib.ListN.{length}
use borrow.Author.Tests.{eqb-true, eq-eqb}
use Rattle.defs.specs.Lists.{keep_if, any_of, elem_of, up_from}
use Rattle.defs.specs.SeqGraph.{Edge, Graph, node_count}
use Rattle.defs.specs.Strings.{HasEdge}
use Rattle.defs.specs.Cleanup.{forward, grow, reached}
use Rattle.laws.proofs.ListLaws.{mem-keep_if, of-keep_if, or_cases, or_left, or_right, and_split, and-true}
use Rattle.laws.proofs.Edges.{elem_of-true, elem_of-mem}
use Rattle.laws.proofs.Counts.{Distinct}
use Rattle.laws.proofs.Cycles.{any_of-true, any_of-mem, mem-up_from, distinct-length}

module _ (has_ends : Edge → ℕ → ℕ → Bool) (g : Graph) where
  -- an edge that leads from u to v, as `joins` reads it
  abbrev pub Hop : ℕ → ℕ → Type 0
  Hop u v = (e : Edge) × Memᴰ e g.edges × (has_ends e u v ≡ true)

  -- a way of so many edges
  abbrev pub Way : ℕ → ℕ → ℕ → Type 0
  Way zero u v = u ≡ v
  Way (suc n) u v = (w : ℕ) × Hop u w × Way n w v

  pub way-more : (n u v w : ℕ) → Way n u v → Hop v w → Way (suc n) u w
  way-more zero u v w e h = (w, rw e h, refl)
  way-more (suc n) u v w (x, k, y) h = (x, k, way-more n x v w y h)

  pub way-last : (n u v : ℕ) → Way (suc n) u v → (w : ℕ) × Way n u w × Hop w v
  way-last zero u v (x, k, e) = (u, refl, rw e at k)
  way-last (suc n) u v (x, k, y) = let r = way-last n x v y in (r.0, (x, k, r.1), r.2)

  abbrev test : List ℕ → ℕ → Bool
  test seen v = elem_of v seen || any_of (λ e. any_of (λ u. has_ends e u v) seen) g.edges

  abbrev more : List ℕ → List ℕ
  more seen = keep_if (test seen) (up_from 0 (node_count g))

  Before : List ℕ → ℕ → Type 0
  Before seen v = (u : ℕ) × (elem_of u seen ≡ true) × Hop u v

  of-more : (seen : List ℕ) (v : ℕ) → elem_of v (more seen) ≡ true → (elem_of v seen ≡ true) ⊎ Before seen v
  unfolding Before
  of-more seen v t =
      let k = of-keep_if (test seen) (up_from 0 (node_count g)) (elem_of-true v (more seen) t) in
      ⊎_elim inl
      (λ a. let x = any_of-true (λ e. any_of (λ u. has_ends e u v) seen) g.edges a in
      let y = any_of-true (λ u. has_ends x.0 u v) seen x.2 in
      inr (y.0, elem_of-mem y.0 seen y.1, (x.0, x.1, y.2)))
      (or_cases (elem_of v seen) _ k.1)

  in-more : (seen : List ℕ) (v : ℕ) → v < node_count g → test seen v ≡ true → elem_of v (more seen) ≡ true
  in-more seen v h t = elem_of-mem v (more seen) (mem-keep_if (test seen) (mem-up_from 0 (node_count g) v (omega arith) (omega arith)) t)

  more-old : (seen : List ℕ) (v : ℕ) → v < node_count g → elem_of v seen ≡ true → elem_of v (more seen) ≡ true
  more-old seen v h t = in-more seen v h (or_left _ _ t)

  more-hop : (seen : List ℕ) (u v : ℕ) → v < node_count g → elem_of u seen ≡ true → Hop u v → elem_of v (more seen) ≡ true
  more-hop seen u v h t (e, m, j) =
      in-more seen v h (or_right (elem_of v seen) _ (any_of-mem (λ e. any_of (λ u. has_ends e u v) seen) g.edges m
      (any_of-mem (λ u. has_ends e u v) seen (elem_of-true u seen t) j)))

  From : List ℕ → ℕ → Type 0
  From seen v = (u : ℕ) × (elem_of u seen ≡ true) × (m : ℕ) × Way m u v

  of-grow : (n : ℕ) (seen : List ℕ) (v : ℕ) → elem_of v (grow has_ends g n seen) ≡ true → From seen v
  unfolding grow From Before
  of-grow zero seen v t = (v, t, 0, refl)
  of-grow (suc n) seen v t =
      let r = of-grow n (more seen) v t in
      ⊎_elim {C = From seen v} (λ i. (r.0, i, r.2, r.3)) (λ i. (i.0, i.1, suc r.2, (r.0, i.2, r.3))) (of-more seen r.0 r.1)

  module _ (inside : (u v : ℕ) → Hop u v → v < node_count g) where
    in-grow : (n : ℕ) (seen : List ℕ) (m u v : ℕ) → m ≤ n → u < node_count g → elem_of u seen ≡ true → Way m u v → elem_of v (grow has_ends g n seen) ≡ true
    unfolding grow
    in-grow zero seen zero u v l h t e = rw e at t
    in-grow zero seen (suc m) u v l h t w = absurd (omega arith)
    in-grow (suc n) seen zero u v l h t e = in-grow n (more seen) zero u v (omega arith) h (more-old seen u h t) e
    in-grow (suc n) seen (suc m) u v l h t (x, k, w) = in-grow n (more seen) m x v (omega arith) (inside u x k) (more-hop seen u x (inside u x k) t k) w

    -- where a way of at most as many steps as there are vertices ends is reached
    pub short-reached : (m u v : ℕ) → m ≤ node_count g → u < node_count g → Way m u v → elem_of v (reached has_ends g u) ≡ true
    unfolding reached
    short-reached m u v l h w = in-grow (node_count g) (u ∷ []) m u v l h (elem_of-mem u (u ∷ []) (Memᴰ.head refl)) w

    -- where each hop goes on in an order, no way is longer than there are vertices
    module _ (Below : ℕ → ℕ → Type 0) (trans : (a b c : ℕ) → Below a b → Below b c → Below a c) (irrefl : (a : ℕ) → Below a a → ⊥) (rises :
        (u v : ℕ) → Hop u v → Below u v) where
      Listed : ℕ → ℕ → Type 0
      Listed m u = (vs : List ℕ) × (length vs ≡ m) × Distinct (u ∷ vs) × ((x : ℕ) → Memᴰ x (u ∷ vs) → x < node_count g)
          × ((x : ℕ) → Memᴰ x vs → Below u x)

      listed_more : (m u w : ℕ) → u < node_count g → Hop u w → Listed m w → Listed (suc m) u
      unfolding Listed
      listed_more m u w h k r =
          let below : (x : ℕ) → Memᴰ x (w ∷ r.0) → Below u x = λ x i.
          ⊎_elim (λ (e : x ≡ w). rw e (rises u w k)) (λ j. trans u w x (rises u w k) (r.4 x j)) (Memᴰ.cases_cons i) in
          (w ∷ r.0, ap suc r.1, (λ i. irrefl u (below u i), r.2), λ x i. ⊎_elim (λ (e : x ≡ u). rw e h) (r.3 x) (Memᴰ.cases_cons i), below)

      listed : (m u v : ℕ) → u < node_count g → Way m u v → Listed m u
      unfolding Listed
      listed zero u v h e = (
        [],
        refl,
        (λ i. Memᴰ.not-nil i, tt),
        λ x i.
            ⊎_elim (λ (e : x ≡ u). rw e h) (λ j. absurd (Memᴰ.not-nil j)) (Memᴰ.cases_cons i),
        λ x i. absurd (Memᴰ.not-nil i),
      )
      listed (suc m) u v h (w, k, y) = listed_more m u w h k (listed m w v (inside u w k) y)

      short : (m u v : ℕ) → u < node_count g → Way m u v → m < node_count g
      unfolding Listed
      short m u v h w = let r = listed m u v h w in omega (arith, distinct-length (node_count g) (u ∷ r.0) r.2 r.3, r.1)

      pub is-reached : (m u v : ℕ) → u < node_count g → Way m u v → elem_of v (reached has_ends g u) ≡ true
      is-reached m u v h w = short-reached m u v (omega (arith, short m u v h w)) h w

  pub of-reached : (u v : ℕ) → elem_of v (reached has_ends g u) ≡ true → (m : ℕ) × Way m u v
  unfolding reached From
  of-reached u v t = let r = of-grow (node_count g) (u ∷ []) v t in (r.2, rw (Memᴰ.eq_of_singleton (elem_of-true r.0 (u ∷ []) r.1)) at r.3)

-- a hop along an edge, as `forward` reads it
module _ (g : Graph) where
  pub hop-edge : (u v : ℕ) → Hop forward g u v → HasEdge g u v
  unfolding forward
  hop-edge u v (e, m, j) = let h = and_split _ _ j in (e, m, eqb-true _ _ h.0, eqb-true _ _ h.1)

  pub edge-hop : (u v : ℕ) → HasEdge g u v → Hop forward g u v
  unfolding forward
  edge-hop u v (e, m, p, q) = (e, m, and-true _ _ (eq-eqb _ _ p) (eq-eqb _ _ q))
