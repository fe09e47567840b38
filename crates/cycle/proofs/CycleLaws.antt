-- The definition's cycle: there is one exactly when there is a closed walk, and none exactly when a rank rises along each edge.
-- Assumes nothing.
use Prim.Native.Nat.{ℕ, zero, suc, ◌<◌}
use native.Mathlib.Omega.{arith}
use mathlib.Core.Path.{◌≡◌, refl}
use mathlib.Core.Logic.{◌⊎◌, ⊎_elim}
use mathlib.Core.Bool.{true, false}
use mathlib.Core.List.Memᴰ
use mathlib.Core.List.{List, [], ◌∷◌, Memᴰ}
use lib.ListN.{length}
use Rattle.defs.specs.Lists.{any_of, elem_of, up_from}
use Rattle.defs.specs.SeqGraph.{Graph, node_count, outgoing_nodes}
use Rattle.defs.specs.Cleanup.{forward, reached}
use Rattle.defs.specs.Refusals.{has_cycle}
use Rattle.defs.specs.Strings.{HasEdge}
use Rattle.laws.proofs.Walks.{by_test}
use Rattle.laws.proofs.ListLaws.{clash}
use Rattle.laws.proofs.Edges.{elem_of-true, elem_of-mem}
use Rattle.laws.proofs.Counts.{Distinct}
use Rattle.laws.proofs.Nets.{Ranks, Bounded}
use Rattle.laws.proofs.Cycles.{Walk, one, more, Closed, any_of-true, any_of-mem, mem-up_from, distinct-length, ranked-open, rounds, ranked-or-closed}
use Rattle.laws.proofs.Reach.{Hop, Way, of-reached, hop-edge, edge-hop, short-reached}
use Rattle.laws.proofs.Diamonds.{mem-outs, of-mem-outs}

module _ (g : Graph) where
  -- an edge and a way back make a closed walk
  way-walk : (n u v w : ℕ) → HasEdge g u v → Way forward g n v w → Walk g u w
  way-walk zero u v w h e = one (rw e at h)
  way-walk (suc n) u v w h (x, k, y) = more h (way-walk n v x w (hop-edge g v x k) y)

  pub cycle-closed : has_cycle g ≡ true → Closed g
  unfolding has_cycle
  cycle-closed t =
      let x = any_of-true (λ (v : ℕ). any_of (λ (w : ℕ). elem_of v (reached forward g w)) (outgoing_nodes g v)) (up_from 0 (node_count g)) t in
      let y = any_of-true (λ (w : ℕ). elem_of x.0 (reached forward g w)) (outgoing_nodes g x.0) x.2 in
      let r = of-reached forward g y.0 x.0 y.2 in
      (x.0, way-walk r.0 x.0 y.0 x.0 (of-mem-outs g x.0 y.0 y.1) r.1)

  pub ranked-no-cycle : (r : ℕ → ℕ) → Ranks g r → has_cycle g ≡ false
  ranked-no-cycle r ranks = by_test (has_cycle g) (λ t. absurd (ranked-open g r ranks (cycle-closed t))) (λ t. t)

  -- ---- a closed walk is found

  walk-way : {u w : ℕ} → Walk g u w → (v : ℕ) × HasEdge g u v × (n : ℕ) × Way forward g n v w
  walk-way (one {u = u} {v = v} h) = (v, h, 0, refl)
  walk-way (more {u = u} {v = v} {w = w} h k) =
      let r = walk-way k in
      (v, h, suc r.2, (r.0, edge-hop g v r.0 r.1, r.3))

  -- u and then each of vs along edges, to v
  Chain : ℕ → List ℕ → ℕ → Type 0
  Chain u [] v = u ≡ v
  Chain u (w ∷ ws) v = Hop forward g u w × Chain w ws v

  chain-way : (u v : ℕ) (vs : List ℕ) → Chain u vs v → Way forward g (length vs) u v
  unfolding Chain
  chain-way u v [] c = c
  chain-way u v (w ∷ ws) c = (w, c.0, chain-way w v ws c.1)

  -- a chain that meets no vertex twice
  record Simple (u v : ℕ) : Type 0 where
    vs : List ℕ
    chain : Chain u vs v
    distinct : Distinct (u ∷ vs)
    below : (x : ℕ) → Memᴰ x (u ∷ vs) → x < node_count g

  -- its part from one of its vertices on
  simple-from : (u v : ℕ) (vs : List ℕ) → Chain u vs v → Distinct (u ∷ vs) → ((x : ℕ) → Memᴰ x (u ∷ vs) → x < node_count g) → (x : ℕ)
      → Memᴰ x (u ∷ vs) → Simple x v
  unfolding Chain
  simple-from u v [] c d b x m = ⊎_elim (λ (q : x ≡ u). rw q (record { vs = []; chain = c; distinct = d; below = b })) (λ k.
      absurd (Memᴰ.not-nil k)) (Memᴰ.cases_cons m)
  simple-from u v (w ∷ ws) c d b x m =
      ⊎_elim (λ (q : x ≡ u). rw q (record { vs = w ∷ ws; chain = c; distinct = d; below = b }))
      (λ k. simple-from w v ws c.1 d.1 (λ y i. b y (Memᴰ.tail i)) x k)
      (Memᴰ.cases_cons m)

  module _ (bounded : Bounded g) where
    hop-below : (u v : ℕ) → Hop forward g u v → (u < node_count g) × (v < node_count g)
    hop-below u v k = let h = hop-edge g u v k in rw (h.2, h.3) at (bounded h.0 h.1)

    simple-more : (u w v : ℕ) → Hop forward g u w → Simple w v → Simple u v
    unfolding Chain
    simple-more u w v k s = by_test (elem_of u (w ∷ s.vs))
        (λ t. simple-from w v s.vs s.chain s.distinct s.below u (elem_of-true u (w ∷ s.vs) t))
        (λ t. record {
          vs = w ∷ s.vs;
          chain = (k, s.chain);
          distinct = (λ m. clash (elem_of-mem u (w ∷ s.vs) m) t, s.distinct);
          below = λ x m. ⊎_elim (λ (q : x ≡ u). rw q (hop-below u w k).0) (λ i. s.below x i) (Memᴰ.cases_cons m);
        })

    simple : (n u v : ℕ) → u < node_count g → Way forward g n u v → Simple u v
    unfolding Chain
    simple zero u v h e = record {
      vs = [];
      chain = e;
      distinct = (λ m. Memᴰ.not-nil m, tt);
      below = λ x m. ⊎_elim (λ (q : x ≡ u). rw q h) (λ i. absurd (Memᴰ.not-nil i)) (Memᴰ.cases_cons m);
    }
    simple (suc n) u v h (w, k, y) = simple-more u w v k (simple n w v (hop-below u w k).1 y)

    way-reached : (n u v : ℕ) → u < node_count g → Way forward g n u v → elem_of v (reached forward g u) ≡ true
    way-reached n u v h w =
        let s = simple n u v h w in
        short-reached forward g (λ u v k. (hop-below u v k).1) (length s.vs) u v
        (omega (arith, distinct-length (node_count g) (u ∷ s.vs) s.distinct s.below)) h
        (chain-way u v s.vs s.chain)

    pub closed-cycle : Closed g → has_cycle g ≡ true
    unfolding has_cycle
    closed-cycle (v, k) =
        let r = walk-way k in
        let b = hop-below v r.0 (edge-hop g v r.0 r.1) in
        any_of-mem (λ (v : ℕ). any_of (λ (w : ℕ). elem_of v (reached forward g w)) (outgoing_nodes g v)) (up_from 0 (node_count g))
        (mem-up_from 0 (node_count g) v (omega arith) (omega (arith, b.0)))
        (any_of-mem (λ (w : ℕ). elem_of v (reached forward g w)) (outgoing_nodes g v) (mem-outs g v r.0 r.1) (way-reached r.2 r.0 v b.1 r.3))

    pub no-cycle-ranked : has_cycle g ≡ false → Ranks g (rounds g bounded)
    no-cycle-ranked t = ⊎_elim (λ r. r) (λ c. clash (closed-cycle c) t) (ranked-or-closed g bounded)
