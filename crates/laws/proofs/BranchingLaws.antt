-- S rises neither under a rewrite nor in the whole call, and bounds the room that a graph needs after vertices went.
-- Assumes nothing.
use Prim.Native.Nat.{ℕ, suc, ◌+◌, ◌≤◌, ◌<◌}
use native.Mathlib.Omega.{arith}
use mathlib.Core.Path.{◌≡◌, refl, sym, ap}
use mathlib.Core.Logic.{◌⊎◌, inl, inr, ⊎_elim}
use mathlib.Core.Bool.{true}
use mathlib.Core.Option.{some}
use mathlib.Core.List.Memᴰ
use mathlib.Core.List.{List, [], ◌∷◌, ◌++◌, map, Memᴰ}
use lib.Dec.{eqb}
use lib.ListN.{length}
use borrow.Author.Tests.{eqb-true, eqb-false}
use Rattle.defs.specs.Lists.{bit, common_suffix}
use Rattle.defs.specs.SeqGraph.{Graph, node_count, vertex_sequence, incoming_nodes, keeps, apply_change, remove_vertices_by_id}
use Rattle.defs.specs.Zip.{merge_linear_chain, last_of}
use Rattle.defs.specs.Rewrites.{is_merge, try_split_common_suffix, merge_change}
use Rattle.defs.specs.Strings.{HasEdge}
use Rattle.laws.proofs.Walks.{IsSink, by_test}
use Rattle.laws.proofs.ListLaws.{by_order}
use Rattle.laws.proofs.Nets.{Bounded, Ranks, part_of}
use Rattle.laws.proofs.Edges.{of-mem-ins, order-grown, keeps-not}
use Rattle.laws.proofs.Counts.{total, Single}
use Rattle.laws.proofs.Changes.{sink-old}
use Rattle.laws.proofs.Sound.{Sound}
use Rattle.laws.proofs.Branching.{ends, sinks, branching, branching-is, sinks-by, ends_is}
use Rattle.laws.proofs.Merge as M
use Rattle.laws.proofs.MergeCounts.{distinct-gone, surplus-merge}
use Rattle.laws.proofs.Splits as P
use Rattle.laws.proofs.Splits.{split-keeps'}
use Rattle.laws.proofs.SplitsCounts as Q
use Rattle.laws.proofs.SplitsCounts.{split-surplus}
use Rattle.laws.proofs.ZipLaws as Z
use Rattle.laws.proofs.ZipLaws.{Chained}
use Rattle.laws.proofs.ZipCounts.{distinct-chain, below, zip-surplus}

-- from the sinks and edges less vertices
fewer-branches : (g g' : Graph) → Bounded g → Bounded g' → length g'.edges + node_count g ≤ length g.edges + node_count g'
    → sinks g' ≤ sinks g → branching g' ≤ branching g
fewer-branches g g' b b' h k = omega (arith, branching-is g b, branching-is g' b')

total-mem : (f : ℕ → ℕ) (l : List ℕ) (x : ℕ) → Memᴰ x l → f x ≤ total f l
unfolding total
total-mem f [] x m = absurd (Memᴰ.not-nil m)
total-mem f (y ∷ l) x m = ⊎_elim (λ (e : x ≡ y). omega (arith, ap f e)) (λ n. omega (arith, total-mem f l x n)) (Memᴰ.cases_cons m)

-- a sink counts one
ends-one : (g : Graph) (v : ℕ) → ((w : ℕ) → HasEdge g v w → ⊥) → 1 ≤ bit (ends g v)
unfolding bit
ends-one g v h = rw (ends_is g v h) (omega arith)

-- split
module _ (g g' : Graph) (bottom : ℕ) (sound : Sound g) (once : Single g.edges) (did : try_split_common_suffix g bottom ≡ some g') where
  abbrev suf : List ℕ
  suf = common_suffix (map (vertex_sequence g) (incoming_nodes g bottom))

  abbrev cuts : (m : ℕ) → Memᴰ m (incoming_nodes g bottom) → vertex_sequence g m ≡ Rattle.defs.specs.Rewrites.without_suffix g (length suf) m ++ suf
  cuts = Q.cuts g g' bottom sound once did

  abbrev only_out : (m w : ℕ) → Memᴰ m (incoming_nodes g bottom) → HasEdge g m w → w ≡ bottom
  only_out = Q.only_out g g' bottom sound once did

  abbrev b₁ : Bounded g
  b₁ = sound.bounded

  abbrev G₁ : Graph
  G₁ = P.G g b₁ sound.rank sound.ranks bottom suf only_out cuts

  -- a new vertex leads to the bottom or to the suffix vertex of its block
  block-leads : (v k m : ℕ) → P.Block g bottom suf (node_count g) (incoming_nodes g bottom) k m → k ≤ v → v < k + P.width g bottom suf m
      → ((w : ℕ) → (part_of (keeps (incoming_nodes g bottom)) G₁).Ed v w → ⊥) → ⊥
  block-leads v k m b l u h =
      let put = P.put g b₁ sound.rank sound.ranks bottom suf only_out cuts k m in
      let new_edge = P.link' g b₁ sound.rank sound.ranks bottom suf only_out cuts in
      by_order v k
      (λ i. let e : v ≡ k = omega arith in h bottom (rw e (new_edge k bottom (put k bottom b (P.in-block₂ g bottom suf k m)))))
      (λ i. P.width-cases g bottom suf m
      (λ _ w. omega arith)
      (λ n w. let e : v ≡ suc k = omega arith in h k (rw e (new_edge (suc k) k (put (suc k) k b (P.in-block₁ g bottom suf k m n))))))

  split-sink : (v : ℕ) → IsSink (part_of (keeps (incoming_nodes g bottom)) G₁) v → ((v < node_count g) × ((w : ℕ) → HasEdge g v w → ⊥)) ⊎ ((v ≡ 0) × (1 ≤ 0))
  split-sink v h = by_order (node_count g) v
      (λ l. let a = P.block_at g bottom suf (node_count g) (incoming_nodes g bottom) v l
      (omega (arith, P.size_g g b₁ sound.rank sound.ranks bottom suf only_out cuts, h.0.0)) in
      absurd (block-leads v a.0 a.1 a.2 a.3 a.4 h.1))
      (λ l. inl (
        l,
        sink-old g b₁ (P.c g b₁ sound.rank sound.ranks bottom suf only_out cuts)
            (P.local g b₁ sound.rank sound.ranks bottom suf only_out cuts) v l h,
      ))

  sinks-split : sinks g' ≤ sinks g
  sinks-split = rw (← (Q.parts g g' bottom sound once did).1) (unfold apply_change remove_vertices_by_id in
      (omega (
        arith,
        sinks-by g G₁ (incoming_nodes g bottom) 0 0 (omega (arith, P.size_g g b₁ sound.rank sound.ranks bottom suf only_out cuts))
            (Q.once-prevs g g' bottom sound once did)
            (P.prev-old g b₁ sound.rank sound.ranks bottom suf only_out cuts) split-sink,
      )))

  pub split-branching : branching g' ≤ branching g
  split-branching = fewer-branches g g' b₁ (split-keeps' g g' bottom sound did).sound.bounded (split-surplus g g' bottom sound once did) sinks-split

-- merge
module _ (g : Graph) (bottom : ℕ) (bounded : Bounded g) (r : ℕ → ℕ) (ranks : Ranks g r) (inside : bottom < node_count g) (ok :
    is_merge g (incoming_nodes g bottom) ≡ true) (once : Single g.edges) where
  abbrev G₂ : Graph
  G₂ = M.G g bottom bounded r ranks inside ok

  pub old-one : (v : ℕ) → Memᴰ v (bottom ∷ incoming_nodes g bottom) → v < node_count g
  old-one v m = ⊎_elim (λ (i : v ≡ bottom). rw i inside) (λ n.
      (M.edge-old g bottom bounded r ranks inside ok v bottom (of-mem-ins g v bottom n)).0) (Memᴰ.cases_cons m)

  merge-sink : (v : ℕ) → IsSink (part_of (keeps (bottom ∷ incoming_nodes g bottom)) G₂) v
      → ((v < node_count g) × ((w : ℕ) → HasEdge g v w → ⊥)) ⊎ ((v ≡ node_count g) × (1 ≤ bit (ends g bottom)))
  merge-sink v h = by_order (node_count g) v
      (λ l. let e : v ≡ node_count g = omega (arith, h.0.0, order-grown g (merge_change g bottom (incoming_nodes g bottom)), one-new) in
      inr (
        e,
        ends-one g bottom (λ w k. h.1 w (
          rw e (M.G-out g bottom bounded r ranks inside ok w k),
          h.0.1,
          M.out-kept g bottom bounded r ranks inside ok w k,
        )),
      ))
      (λ l. inl (l, (M.sink-N g bottom bounded r ranks inside ok v h (M.is-common g bottom bounded r ranks inside ok v h.0.1 l)).1))
    where
      one-new : length (merge_change g bottom (incoming_nodes g bottom)).verts ≡ 1
      one-new = unfold merge_change in refl

  pub merge-branching : branching (apply_change g (merge_change g bottom (incoming_nodes g bottom))) ≤ branching g
  merge-branching = fewer-branches g (apply_change g (merge_change g bottom (incoming_nodes g bottom))) bounded
      (M.bounded-merge g bottom bounded r ranks inside ok) (surplus-merge g bottom bounded r ranks inside ok once)
      (unfold apply_change remove_vertices_by_id merge_change in
      (omega (
        arith,
        sinks-by g G₂ (bottom ∷ incoming_nodes g bottom) (node_count g) (bit (ends g bottom))
            (omega (arith, order-grown g (merge_change g bottom (incoming_nodes g bottom))))
            (distinct-gone g bottom bounded r ranks inside ok once) old-one merge-sink,
        total-mem (λ v. bit (ends g v)) (bottom ∷ incoming_nodes g bottom) bottom (Memᴰ.head refl),
      )))

-- zip
module _ (g : Graph) (bounded : Bounded g) (r : ℕ → ℕ) (ranks : Ranks g r) (s y : ℕ) (ys : List ℕ) (chained : Chained g s (y ∷ ys)) where
  abbrev G₃ : Graph
  G₃ = Z.G g bounded r ranks s y ys chained

  abbrev lst : ℕ
  lst = last_of s (y ∷ ys)

  lst-in : Memᴰ lst (y ∷ ys)
  lst-in = ⊎_elim (λ (e : lst ≡ s). absurd (Z.s-not-last g bounded r ranks s y ys chained (sym e))) (λ m.
      m) (Memᴰ.cases_cons (Z.last-in g bounded r ranks s (y ∷ ys)))

  zip-sink : (v : ℕ) → IsSink (part_of (keeps (y ∷ ys)) G₃) v → ((v < node_count g) × ((w : ℕ) → HasEdge g v w → ⊥)) ⊎ ((v ≡ s) × (1 ≤ bit (ends g lst)))
  zip-sink v h = by_test (eqb v s)
      (λ t. let e = eqb-true v s t in
      inr (e, ends-one g lst (λ w k. h.1 w (rw e (unfold Z.U in (Z.U-last g bounded r ranks s y ys chained w k))))))
      (λ t. inl (
        rw (Z.order-G g bounded r ranks s y ys chained) at h.0.0,
        λ w k. (Z.back g bounded r ranks s y ys chained).sink v
            (Z.is-common g bounded r ranks s y ys chained v (λ m. ⊎_elim (eqb-false v s t) (keeps-not (y ∷ ys) v h.0.1) (Memᴰ.cases_cons m)))
            (unfold Z.U in h) w k,
      ))

  pub zip-branching : branching (merge_linear_chain g s (y ∷ ys)) ≤ branching g
  zip-branching = fewer-branches g (merge_linear_chain g s (y ∷ ys)) bounded (Z.bounded-zip g bounded r ranks s y ys chained)
      (zip-surplus g bounded r ranks s y ys chained)
      (unfold merge_linear_chain remove_vertices_by_id in
      (omega (
        arith,
        sinks-by g G₃ (y ∷ ys) s (bit (ends g lst)) (omega (arith, Z.order-G g bounded r ranks s y ys chained))
            (distinct-chain g bounded r ranks s (y ∷ ys) chained).1
            (below g bounded r ranks s y ys chained) zip-sink,
        total-mem (λ v. bit (ends g v)) (y ∷ ys) lst lst-in,
      )))
