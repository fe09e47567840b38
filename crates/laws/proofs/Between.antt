-- What lies between two vertices spells what the ways from the one to the other spell.
-- Assumes nothing.
use Prim.Native.Nat.{ℕ, zero, suc, ◌≤◌, ◌<◌}
use native.Mathlib.Omega.{arith}
use mathlib.Core.Path.{◌≡◌, refl, sym, ap, ◌∙◌}
use mathlib.Core.Logic.{◌↔◌}
use mathlib.Core.Bool.{Bool, true, false, ◌&&◌}
use mathlib.Core.List.{List, [], ◌∷◌, ◌++◌}
use borrow.Author.Tests.{eqb-true, eq-eqb}
use Rattle.defs.specs.Lists.{elem_of, concat, rank}
use Rattle.defs.specs.SeqGraph.{Graph, node_count, vertex_sequence, compact_vertices}
use Rattle.defs.specs.Zip.{last_of}
use Rattle.defs.specs.Cleanup.{forward, backward, reached, remove_paths_not_connected_to_ref}
use Rattle.defs.specs.Strings.{SpellsBetween, HasEdge, IsPath, Spells, spelled}
use Rattle.laws.proofs.Walks.{Net, start, at, stop, Steps, stay, step, cast, Reads, IsSource, IsSink, by_test}
use Rattle.laws.proofs.ListLaws.{clash, and_split, and-true, rank-no}
use Rattle.laws.proofs.Nets.{Ranks, Bounded, part_of, order-restrict, bounded-restrict, ranks-restrict, closed, reads-restrict, edge-inside}
use Rattle.laws.proofs.Nets.{of-reads-restrict, spells-reads, reads-spells}
use Rattle.laws.proofs.Sound.{Sound}
use Rattle.laws.proofs.Reach.{Hop, Way, way-more, way-last, is-reached, of-reached, hop-edge, edge-hop}

module _ (g : Graph) where
  back : (u v : ℕ) → Hop backward g u v → HasEdge g v u
  unfolding backward
  back u v (e, m, j) = let h = and_split _ _ j in (e, m, eqb-true _ _ h.1, eqb-true _ _ h.0)

  back-hop : (u v : ℕ) → HasEdge g v u → Hop backward g u v
  unfolding backward
  back-hop u v (e, m, p, q) = (e, m, and-true _ _ (eq-eqb _ _ q) (eq-eqb _ _ p))

  module _ (bounded : Bounded g) (r : ℕ → ℕ) (ranks : Ranks g r) where
    is-forward : (m u v : ℕ) → u < node_count g → Way forward g m u v → elem_of v (reached forward g u) ≡ true
    is-forward = is-reached forward g (λ u v h. (edge-inside g bounded u v (hop-edge g u v h)).1) (λ u v. r u < r v) (λ a b c h k. omega arith) (λ a h.
        omega arith) (λ u v h. ranks u v (hop-edge g u v h))

    is-backward : (m u v : ℕ) → u < node_count g → Way backward g m u v → elem_of v (reached backward g u) ≡ true
    is-backward = is-reached backward g (λ u v h. (edge-inside g bounded v u (back u v h)).0) (λ u v. r v < r u) (λ a b c h k. omega arith) (λ a h.
        omega arith) (λ u v h. ranks v u (back u v h))

    up : (m u v : ℕ) → Way forward g m u v → r u ≤ r v
    up zero u v e = rw e (omega arith)
    up (suc m) u v (w, h, y) = omega (arith, up m w v y, ranks u w (hop-edge g u w h))

    down : (m u v : ℕ) → Way backward g m u v → r v ≤ r u
    down zero u v e = rw e (omega arith)
    down (suc m) u v (w, h, y) = omega (arith, down m w v y, ranks w u (back u w h))

    module _ (s t : ℕ) (s-in : s < node_count g) (t-in : t < node_count g) where
      -- v lies between
      unfoldable pub p : ℕ → Bool
      p v = elem_of v (reached forward g s) && elem_of v (reached backward g t)

      abbrev Ways : ℕ → Type 0
      Ways v = ((m : ℕ) × Way forward g m s v) × ((m : ℕ) × Way backward g m t v)

      of-p : (v : ℕ) → p v ≡ true → Ways v
      unfolding p
      of-p v e = let h = and_split _ _ e in (of-reached forward g s v h.0, of-reached backward g t v h.1)

      is-p : (v : ℕ) → Ways v → p v ≡ true
      unfolding p
      is-p v (a, b) = and-true _ _ (is-forward a.0 s v s-in a.1) (is-backward b.0 t v t-in b.1)

      abbrev pub U : Net
      U = part_of p g

      -- the only vertex between without incoming edges is s, the only one without outgoing edges is t
      source-by : (v m : ℕ) → Way forward g m s v → ((k : ℕ) × Way backward g k t v) → ((u : ℕ) → HasEdge g u v → p u ≡ true → ⊥) → v ≡ s
      source-by v zero w b h = sym w
      source-by v (suc m) w b h =
          let z = way-last forward g m s v w in
          let e = hop-edge g z.0 v z.2 in
          absurd (h z.0 e (is-p z.0 ((m, z.1), (suc b.0, way-more backward g b.0 t v z.0 b.1 (back-hop v z.0 e)))))

      sink-by : (v m : ℕ) → Way backward g m t v → ((k : ℕ) × Way forward g k s v) → ((u : ℕ) → HasEdge g v u → p u ≡ true → ⊥) → v ≡ t
      sink-by v zero w b h = sym w
      sink-by v (suc m) w b h =
          let z = way-last backward g m t v w in
          let e = back z.0 v z.2 in
          absurd (h z.0 e (is-p z.0 ((suc b.0, way-more forward g b.0 s v z.0 b.1 (edge-hop g v z.0 e)), (m, z.1))))

      pub only-source : (v : ℕ) → IsSource U v → v ≡ s
      only-source v h = let w = of-p v h.0.1 in source-by v w.0.0 w.0.1 w.1 (λ u e q. h.1 u (e, q, h.0.1))

      pub only-sink : (v : ℕ) → IsSink U v → v ≡ t
      only-sink v h = let w = of-p v h.0.1 in sink-by v w.1.0 w.1.1 w.0 (λ u e q. h.1 u (e, h.0.1, q))

      pub s-source : p s ≡ true → IsSource U s
      s-source q = ((s-in, q), λ u h. let w = of-p u h.1 in omega (arith, up w.0.0 s u w.0.1, ranks u s h.0))

      pub t-sink : (v : ℕ) → v ≡ t → v < node_count g → p v ≡ true → IsSink U v
      t-sink v e l q = ((l, q), λ u h. let w = of-p u h.2 in omega (arith, down w.1.0 t u w.1.1, ranks v u h.0, ap r e))

      -- walks of what is between, as paths
      Onward : ℕ → List ℕ → Type 0
      Onward v x = (vs : List ℕ) × IsPath g v vs × (last_of v vs ≡ t) × (spelled g vs ≡ x)

      onward : (v : ℕ) {x : List ℕ} → Steps (part_of p g) (at v) stop x → Onward v x
      unfolding Onward spelled concat last_of
      onward v (step {q = start} h w) = absurd h
      onward v (step {q = at u} {s = x} (e, _, _) w) =
          let z = onward u w in
          (u ∷ z.0, ((edge-inside g bounded v u e).0, e, z.1), z.2, ap (λ y. vertex_sequence g u ++ y) z.3)
      onward v (step {q = stop} h stay) = ([], h.0.0, only-sink v h, refl)
      onward v (step {q = stop} h (step k w)) = absurd k

      along-from : (u : ℕ) (x : List ℕ) → u ≡ s → Onward u x → SpellsBetween g s t (vertex_sequence g u ++ x)
      unfolding Onward spelled concat
      along-from u x e z = record {
        others = z.0;
        path = rw e at z.1;
        ends = ap (λ v. last_of v z.0) (sym e) ∙ z.2;
        spell = ap (λ v. vertex_sequence g v ++ spelled g z.0) (sym e) ∙ ap (λ y. vertex_sequence g u ++ y) z.3;
      }

      pub reads-along : {x : List ℕ} → Reads (part_of p g) x → SpellsBetween g s t x
      reads-along (step {q = start} h w) = absurd h
      reads-along (step {q = at u} h w) = along-from u _ (only-source u h) (onward u w)
      reads-along (step {q = stop} h w) = absurd h

      -- and paths as walks
      to_end : (v : ℕ) (vs : List ℕ) → IsPath g v vs → last_of v vs ≡ t → (m : ℕ) × Way backward g m t v
      unfolding last_of
      to_end v [] h e = (0, sym e)
      to_end v (w ∷ ws) h e = let z = to_end w ws h.2 e in (suc z.0, way-more backward g z.0 t w v z.1 (back-hop w v h.1))

      walk : (v : ℕ) (vs : List ℕ) (m : ℕ) → IsPath g v vs → last_of v vs ≡ t → Way forward g m s v → Steps (part_of p g) (at v) stop (spelled g vs)
      unfolding spelled concat last_of
      walk v [] m h e y = step {p = at v} {q = stop} (t-sink v e h (is-p v ((m, y), (0, sym e)))) stay
      walk v (w ∷ ws) m h e y =
          let y' = way-more forward g m s v w y (edge-hop g v w h.1) in
          step {p = at v} {q = at w} (
            h.1,
            is-p v ((m, y), unfold last_of in (to_end v (w ∷ ws) h e)),
            is-p w ((suc m, y'), to_end w ws h.2 e),
          ) (walk w ws (suc m) h.2 e y')

      pub along-reads : {x : List ℕ} → SpellsBetween g s t x → Reads (part_of p g) x
      unfolding spelled concat
      along-reads a =
          cast a.spell (step {p = start} {q = at s} (s-source (is-p s ((0, refl), to_end s a.others a.path a.ends)))
          (walk s a.others 0 a.path a.ends refl))

      between_is : remove_paths_not_connected_to_ref g s t ≡ compact_vertices p g
      unfolding remove_paths_not_connected_to_ref p
      between_is = refl

      bounded-part : Bounded (compact_vertices p g)
      bounded-part = bounded-restrict p g bounded

      pub between-sound : Sound (remove_paths_not_connected_to_ref g s t)
      between-sound = rw between_is record { bounded = bounded-part; rank = closed p g bounded r; ranks = ranks-restrict p g bounded r ranks }

      -- the strings of what is between are those of the ways from s to t
      pub between-spells : {x : List ℕ} → Spells (remove_paths_not_connected_to_ref g s t) x ↔ SpellsBetween g s t x
      between-spells = rw between_is (
        λ w. reads-along (of-reads-restrict p g bounded (spells-reads (compact_vertices p g) w)),
        λ a. reads-spells (compact_vertices p g) bounded-part (reads-restrict p g bounded (along-reads a)),
      )

      -- a sink that is not reached leaves nothing
      none_kept : (n : ℕ) → ((v : ℕ) → v < n → p v ≡ false) → rank p n ≡ 0
      unfolding rank
      none_kept zero h = refl
      none_kept (suc n) h = rank-no p n (h n (omega arith)) ∙ none_kept n (λ v l. h v (omega arith))

      joined-ways : (m n v : ℕ) → Way forward g m s v → Way backward g n t v → (k : ℕ) × Way forward g k s t
      joined-ways m zero v a b = (m, rw (← b) at a)
      joined-ways m (suc n) v a b =
          let z = way-last backward g n t v b in
          joined-ways (suc m) n z.0 (way-more forward g m s v z.0 a (edge-hop g v z.0 (back z.0 v z.2))) z.1

      pub unreached-empty : elem_of t (reached forward g s) ≡ false → node_count (remove_paths_not_connected_to_ref g s t) ≡ 0
      unreached-empty e = rw between_is (order-restrict p g ∙ none_kept (node_count g) (λ v _. by_test (p v)
          (λ q. let w = of-p v q in let z = joined-ways w.0.0 w.1.0 v w.0.1 w.1.1 in clash (is-forward z.0 s t s-in z.1) e)
          (λ q. q)))
