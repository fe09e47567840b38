-- The tests over the index and the pool are the definition's. Assumes nothing.
use mathlib.Core.Path.{◌≡◌, refl, sym, ap, ◌∙◌}
use mathlib.Core.Bool.{Bool, false, ◌&&◌}
use mathlib.Core.List.{List}
use Prim.Native.Nat.{ℕ, zero, suc, ◌+◌, ◌*◌, ◌<◌}
use native.Mathlib.Omega.{arith}
use lib.ListN.{length, get_or}
use lib.Dec.{eqb, ltb}
use borrow.Author.Tests.{lt-ltb}
use Rattle.defs.specs.Lists.{all_of, same_list}
use Rattle.defs.specs.SeqGraph.{Graph, vertex_sequence, out_degree, in_degree}
use Rattle.defs.specs.Rewrites.{is_merge}
use Rattle.laws.proofs.ListLaws.{all_of-same}
use Rattle.tabs.proofs.Tabs.{length-tab}
use Rattle.tabs.proofs.ListTabs.{of-mem-tab, head-tab}
use Rattle.store.specs.Store.{part, seq_in, graph_in, nums_in}
use Rattle.store.proofs.VertexLaws.{part-long, seq-at}
use Rattle.compact.specs.Compact.{Below}
use Rattle.index.proofs.IndexLaws.{out-degree-is, in-degree-is}
use Rattle.pool.proofs.CompareLaws.{same_not}
use Rattle.merge_suffices.specs.Merge.{Comparable, is_prev, MergeTestable, Merges}

-- ---- equal sequences

module _ {vs p : List ℕ} {u v : ℕ} (C : Comparable vs p u v) where
  pub lengths_differ : {a b : ℕ} → a ≡ get_or vs (2 * u + 1) 0 → b ≡ get_or vs (2 * v + 1) 0 → (a ≡ b → ⊥) → false ≡ same_list (seq_in vs p u) (seq_in vs p v)
  lengths_differ qa qb ne = sym (same_not _ _ (λ q. ne (qa ∙ sym (part-long p _ _ C.u-pool) ∙ ap length q ∙ part-long p _ _ C.v-pool ∙ sym qb)))

  pub parts_same : {n a b : ℕ} {r : Bool} → n ≡ get_or vs (2 * u + 1) 0 → n ≡ get_or vs (2 * v + 1) 0 → a ≡ get_or vs (2 * u) 0 → b ≡ get_or vs (2 * v) 0
      → r ≡ same_list (part p a n) (part p b n) → r ≡ same_list (seq_in vs p u) (seq_in vs p v)
  parts_same {n} {a} {b} qu qv qa qb q = q ∙ (λ i. same_list (part p (qa i) (qu i)) (part p (qb i) (qv i)))

-- ---- one predecessor

pub comparable : {n m : ℕ} {es vs p heads nexts : List ℕ} {u v : ℕ} → MergeTestable n m es vs p heads nexts → u < n → v < n → Comparable vs p u v
comparable {u = u} {v = v} T a b = record {
  u-room = omega (arith, T.vs-room);
  v-room = omega (arith, T.vs-room);
  u-pool = T.pool.at u a;
  v-pool = T.pool.at v b;
}

-- ---- the definition

module _ (k n m : ℕ) (es vs p : List ℕ) where
  abbrev g : Graph
  g = graph_in k n m es vs p

  prev-is : (first v : ℕ) → first < n → v < n → (same_list (vertex_sequence g v) (vertex_sequence g first)
      && (eqb (out_degree g v) 1 && ltb 0 (in_degree g v))) ≡ is_prev m es vs p first v
  prev-is first v a b = rw (seq-at k n m es vs p v b, seq-at k n m es vs p first a, out-degree-is k n m es vs p v, in-degree-is k n m es vs p v) refl

  merge-at : (nodes : List ℕ) (c : ℕ) → 0 < c → Below nodes c n → is_merge g (nums_in c nodes) ≡ all_of (is_prev m es vs p (get_or nodes 0 0)) (nums_in c nodes)
  unfolding is_merge
  merge-at nodes c h B =
      rw (length-tab c (λ (i : ℕ). get_or nodes i 0), lt-ltb 0 c h, head-tab c (λ (i : ℕ). get_or nodes i 0) h)
      (all_of-same _ (is_prev m es vs p (get_or nodes 0 0)) (nums_in c nodes) (λ x e. let z = of-mem-tab c (λ (i : ℕ). get_or nodes i 0) e in
      prev-is (get_or nodes 0 0) x (B.at 0 h) (rw z.2 (B.at z.0 z.1))))

  none-at : (nodes : List ℕ) (c : ℕ) → c ≡ 0 → is_merge g (nums_in c nodes) ≡ false
  unfolding is_merge
  none-at nodes c h = rw (length-tab c (λ (i : ℕ). get_or nodes i 0), h)

module _ {n m : ℕ} {es vs p nodes : List ℕ} {c : ℕ} where
  pub merge_none : c ≡ 0 → Merges n m es vs p nodes c false
  merge_none h = record { is = λ k. sym (none-at k n m es vs p nodes c h) }

  pub merge-all : {r : Bool} → (c ≡ 0 → ⊥) → Below nodes c n → r ≡ all_of (is_prev m es vs p (get_or nodes 0 0)) (nums_in c nodes) → Merges n m es vs p nodes c r
  merge-all ne B q = record { is = λ k. q ∙ sym (merge-at k n m es vs p nodes c (some c ne) B) }
    where
      some : (c : ℕ) → (c ≡ 0 → ⊥) → 0 < c
      some zero f = absurd (f refl)
      some (suc c) f = omega arith
