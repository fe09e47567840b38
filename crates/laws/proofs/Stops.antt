-- The fuel of the other loops is enough too: a chain stops where it cannot go on, and no orphan is left.
-- Assumes nothing.
use Prim.Native.Nat.{ℕ, zero, suc, ◌≤◌, ◌<◌}
use native.Mathlib.Omega.{arith}
use mathlib.Core.Path.{◌≡◌, refl, sym, ap, ◌∙◌}
use mathlib.Core.Logic.{◌⊎◌, inl, inr, ⊎_elim}
use mathlib.Core.Bool.{Bool, false}
use mathlib.Core.List.Memᴰ
use mathlib.Core.List.{List, [], ◌∷◌, Memᴰ}
use lib.Dec.{eqb}
use lib.ListN.{length}
use borrow.Author.Tests.{eqb-true, eqb-false}
use Rattle.defs.specs.Lists.{rank, up_from, head_or}
use Rattle.defs.specs.SeqGraph.{Graph, node_count, outgoing_nodes, keeps, remove_vertices_by_id}
use Rattle.defs.specs.Zip.{chain_goes_on, trace_linear_chain, last_of}
use Rattle.defs.specs.Cleanup.{singleton_orphans, remove_orphans}
use Rattle.laws.proofs.Walks.{by_test}
use Rattle.laws.proofs.ListLaws.{by_order, of-keep_if, rank-yes, rank-no}
use Rattle.laws.proofs.Nets.{order-restrict}
use Rattle.laws.proofs.Edges.{keeps-gone}
use Rattle.laws.proofs.Cycles.{distinct-length, below-up_from}
use Rattle.laws.proofs.Sound.{Sound}
use Rattle.laws.proofs.ZipLaws.{chained-after, pred_in}
use Rattle.laws.proofs.ZipCounts.{distinct-chain}
use Rattle.laws.proofs.Whole.{by_list}
use Rattle.laws.proofs.Cleaned.{orphans-nil, orphans-cons}

-- chains
module _ (g : Graph) where
  -- the chain that ends in v cannot go on
  abbrev pub Stops : ℕ → Type 0
  Stops v = chain_goes_on g v (head_or 0 (outgoing_nodes g v)) ≡ false

  stops-or-full : (fuel x : ℕ) → (length (trace_linear_chain fuel g x) ≡ fuel) ⊎ Stops (last_of x (trace_linear_chain fuel g x))
  unfolding trace_linear_chain last_of
  stops-or-full zero x = inl refl
  stops-or-full (suc fuel) x =
      let y = head_or 0 (outgoing_nodes g x) in
      by_test (chain_goes_on g x y)
      (λ t. rw (t, trace_linear_chain) (⊎_elim (λ e. inl (ap suc e)) inr (stops-or-full fuel y)))
      (λ t. rw (t, trace_linear_chain) (inr t))

  pub chain-stops : Sound g → (x : ℕ) → x < node_count g → Stops (last_of x (trace_linear_chain (node_count g) g x))
  chain-stops s x h =
      let c = trace_linear_chain (node_count g) g x in
      let k = chained-after g (node_count g) x in
      let l = distinct-length (node_count g) (x ∷ c) (distinct-chain g s.bounded s.rank s.ranks x c k)
      (λ v m. ⊎_elim (λ (i : v ≡ x). rw i h) (λ n. let z = pred_in g s.bounded s.rank s.ranks x c k v n in
      rw z.1.3 at (s.bounded z.1.0 z.1.1).1) (Memᴰ.cases_cons m)) in
      ⊎_elim (λ e. absurd (omega (arith, l, e))) (λ t. t) (stops-or-full (node_count g) x)

-- orphans
rank-le : (p : ℕ → Bool) (n : ℕ) → rank p n ≤ n
unfolding rank
rank-le p zero = omega arith
rank-le p (suc n) = by_test (p n) (λ t. omega (arith, rank-yes p n t, rank-le p n)) (λ t. omega (arith, rank-no p n t, rank-le p n))

rank_less : (p : ℕ → Bool) (v n : ℕ) → v < n → p v ≡ false → rank p n < n
rank_less p v zero h e = absurd (omega arith)
rank_less p v (suc n) h e = by_test (eqb v n)
    (λ t. omega (arith, rank-no p n (ap p (sym (eqb-true v n t)) ∙ e), rank-le p n))
    (λ t. let l : v < n = by_order n v (λ i. absurd (eqb-false v n t (omega arith))) (λ i. i) in
    by_test (p n) (λ y. omega (arith, rank-yes p n y, rank_less p v n l e)) (λ y. omega (arith, rank-no p n y, rank_less p v n l e)))

orphan-old : (g : Graph) (v : ℕ) → Memᴰ v (singleton_orphans g) → v < node_count g
unfolding singleton_orphans
orphan-old g v m = omega (arith, below-up_from 0 (node_count g) v (of-keep_if _ (up_from 0 (node_count g)) m).0)

fewer : (g : Graph) (v : ℕ) (vs : List ℕ) → singleton_orphans g ≡ v ∷ vs → node_count (remove_vertices_by_id (v ∷ vs) g) < node_count g
unfolding remove_vertices_by_id
fewer g v vs t = rw (order-restrict (keeps (v ∷ vs)) g) (rank_less (keeps (v ∷ vs)) v (node_count g)
    (orphan-old g v (rw t (Memᴰ.head refl))) (keeps-gone (v ∷ vs) v (Memᴰ.head refl)))

orphans-turn : (fuel : ℕ) (g : Graph) → node_count g < suc fuel → ((a : Graph) → node_count a < fuel → singleton_orphans (remove_orphans fuel a)
    ≡ []) → singleton_orphans (remove_orphans (suc fuel) g) ≡ []
orphans-turn fuel g l ih = by_list (singleton_orphans g)
    (λ t. rw (orphans-nil fuel g t) t)
    (λ v vs t. rw (orphans-cons fuel g v vs t) (ih (remove_vertices_by_id (v ∷ vs) g) (omega (arith, fewer g v vs t))))

orphans-all : (fuel : ℕ) (g : Graph) → node_count g < fuel → singleton_orphans (remove_orphans fuel g) ≡ []
orphans-all zero g l = absurd (omega arith)
orphans-all (suc fuel) g l = orphans-turn fuel g l (λ a k. orphans-all fuel a k)

pub orphans-none : (g : Graph) → singleton_orphans (remove_orphans (suc (node_count g)) g) ≡ []
orphans-none g = orphans-all (suc (node_count g)) g (omega arith)
