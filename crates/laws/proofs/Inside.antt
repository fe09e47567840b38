-- Room inside a rewrite: while its new vertices and edges are added and nothing has gone yet, twice the limits are enough.
-- Assumes nothing.
use Prim.Native.Nat.{ℕ, suc, ◌+◌, ◌*◌, ◌≤◌, ◌<◌}
use native.Mathlib.Omega.{arith}
use mathlib.Core.Path.{◌≡◌, refl, sym, ap, ◌∙◌}
use mathlib.Core.Logic.{⊎_elim}
use mathlib.Core.Bool.{Bool, true, false, ◌&&◌}
use mathlib.Core.Option.{some}
use mathlib.Core.List.Memᴰ
use mathlib.Core.List.{List, [], ◌∷◌, ◌++◌, map, Memᴰ}
use lib.Dec.{ltb}
use lib.ListN.{length, length-map}
use borrow.Author.Tests.{ltb-true}
use Rattle.defs.specs.Lists.{concat}
use Rattle.defs.specs.SeqGraph.{Edge, Graph, node_count, incoming_nodes, edges_into, edges_from, keeps, Change, with_additions, apply_change, new_edge, edge_data}
use Rattle.defs.specs.Zip.{last_of, move_from}
use Rattle.defs.specs.Rewrites.{merges_suffices, is_merge, try_merge_diamond, try_merge_tails, try_split_common_suffix, try_merge_common_suffices}
use Rattle.defs.specs.Rewrites.{merge_change, redirected_to, redirected_from}
use Rattle.defs.specs.Strings.{HasEdge}
use Rattle.laws.proofs.ListLaws.{given-some, and_split}
use Rattle.laws.proofs.Nets.{Bounded, Ranks}
use Rattle.laws.proofs.Edges.{Linked, of-edges_into, of-edges_from, of-mem-ins, nonempty}
use Rattle.laws.proofs.Counts.{Single}
use Rattle.laws.proofs.Changes.{edges-grown, verts-grown, edges-local, verts-local}
use Rattle.laws.proofs.Merge as M
use Rattle.laws.proofs.MergeCounts.{distinct-gone, order-merge}
use Rattle.laws.proofs.SplitsCounts as Q
use Rattle.laws.proofs.Diamonds.{diamond-room, tails-room}
use Rattle.laws.proofs.BranchingLaws.{old-one}
use Rattle.laws.proofs.ZipLaws as Z
use Rattle.laws.proofs.ZipLaws.{Chained}
use Rattle.laws.proofs.Fuel.{Good}
use Rattle.laws.proofs.Measures.{Tame}
use Rattle.laws.proofs.Bound.{Small, Fits, small-fits, tame-fits}

-- g' is a change of g, and all of g, g' and what is between fits in g and g' together
pub record Through (g g' : Graph) : Type 0 where
  pub by : Change
  pub is : apply_change g by ≡ g'
  pub vertices : node_count (with_additions by g) ≤ node_count g' + node_count g
  pub edges : length (with_additions by g).edges ≤ length g'.edges + length g.edges

pub diamond-through : (g g' : Graph) (v : ℕ) → Good g → try_merge_diamond g v ≡ some g' → Through g g'
diamond-through g g' v (s, o) did = let z = diamond-room g g' v s o did in record { by = z.0; is = z.1; vertices = z.2; edges = z.3 }

pub tails-through : (least : ℕ) → 3 < least → (g g' : Graph) (v : ℕ) → Good g → try_merge_tails least g v ≡ some g' → Through g g'
tails-through least pos g g' v (s, o) did = let z = tails-room least pos g g' v s o did in record { by = z.0; is = z.1; vertices = z.2; edges = z.3 }

pub split-through : (g g' : Graph) (v : ℕ) → Good g → try_split_common_suffix g v ≡ some g' → Through g g'
split-through g g' v (s, o) did =
    let c = Q.c g g' v s o did in
    let q = (Q.parts g g' v s o did).1 in
    let l = Q.local g g' v s o did in
    record {
      by = c;
      is = q;
      vertices = omega (arith, verts-local g s.bounded c l (Q.once-prevs g g' v s o did), ap node_count q);
      edges = omega (arith, edges-local g s.bounded c l, ap (λ (x : Graph). length x.edges) q);
    }

module _ (g : Graph) (bottom : ℕ) (bounded : Bounded g) (r : ℕ → ℕ) (ranks : Ranks g r) (inside : bottom < node_count g) (ok :
    is_merge g (incoming_nodes g bottom) ≡ true) where
  merge-stays : (u v : ℕ) → Linked (merge_change g bottom (incoming_nodes g bottom)).edges u v
      → (keeps (bottom ∷ incoming_nodes g bottom) u ≡ true) × (keeps (bottom ∷ incoming_nodes g bottom) v ≡ true)
  unfolding merge_change redirected_to redirected_from new_edge edge_data
  merge-stays u v (e, m, p, q) = ⊎_elim
      (λ k. let a = Memᴰ.of_map (redirected_to (node_count g)) (concat (map (edges_into g) (incoming_nodes g bottom))) k in
      let b = M.of-mem-flat (edges_into g) (incoming_nodes g bottom) a.1 in
      let d = of-edges_into g b.0 a.0 b.2 in
      let i : v ≡ node_count g = sym q ∙ sym (ap (λ (e : Edge). e.to) a.2) in (
        M.into-kept g bottom bounded r ranks inside ok u b.0 b.1 (a.0, d.0, ap (λ (e : Edge). e.from) a.2 ∙ p, d.1),
        rw i (M.new-kept g bottom bounded r ranks inside ok),
      ))
      (λ k. let a = Memᴰ.of_map (redirected_from (node_count g)) (edges_from g bottom) k in
      let d = of-edges_from g bottom a.0 a.1 in
      let i : u ≡ node_count g = sym p ∙ sym (ap (λ (e : Edge). e.from) a.2) in (
        rw i (M.new-kept g bottom bounded r ranks inside ok),
        M.out-kept g bottom bounded r ranks inside ok v (
          a.0,
          d.0,
          d.1,
          ap (λ (e : Edge). e.to) a.2 ∙ q,
        ),
      ))
      (Memᴰ.append_cases (map (redirected_to (node_count g)) (concat (map (edges_into g) (incoming_nodes g bottom)))) m)

  merge-through' : Single g.edges → Through g (apply_change g (merge_change g bottom (incoming_nodes g bottom)))
  merge-through' once =
      let c = merge_change g bottom (incoming_nodes g bottom) in
      record { by = c; is = refl; vertices = fits; edges = edges-grown g bounded c (unfold merge_change in merge-stays) }
    where
      fits : node_count (with_additions (merge_change g bottom (incoming_nodes g bottom)) g) ≤ node_count
          (apply_change g (merge_change g bottom (incoming_nodes g bottom))) + node_count g
      fits = verts-grown g bounded (merge_change g bottom (incoming_nodes g bottom)) (unfold merge_change in
          (distinct-gone g bottom bounded r ranks inside ok once)) (unfold merge_change in (old-one g bottom bounded r ranks inside ok once))
          (unfold merge_change in (omega (arith, order-merge g bottom bounded r ranks inside ok once)))

pub merge-through : (g g' : Graph) (v : ℕ) → Good g → try_merge_common_suffices g v ≡ some g' → Through g g'
unfolding try_merge_common_suffices merges_suffices is_merge
merge-through g g' v (s, o) did =
    let h = given-some _ _ g' did in
    let a = and_split (ltb 0 (length (incoming_nodes g v))) _ h.0 in
    let b = nonempty (incoming_nodes g v) (ltb-true 0 (length (incoming_nodes g v)) a.0) in
    let e = of-mem-ins g b.0 v b.1 in
    let i = rw e.3 at (s.bounded e.0 e.1).1 in
    rw h.1 at (merge-through' g v s.bounded s.rank s.ranks i h.0 o)

-- a zip changes in place
pub zip-through : (g : Graph) (bounded : Bounded g) (r : ℕ → ℕ) (ranks : Ranks g r) (s y : ℕ) (ys : List ℕ) (c : Chained g s (y ∷ ys))
    → (node_count (Z.G g bounded r ranks s y ys c) ≡ node_count g) × (length (Z.G g bounded r ranks s y ys c).edges ≡ length g.edges)
zip-through g bounded r ranks s y ys c = (Z.order-G g bounded r ranks s y ys c, length-map g.edges (move_from (last_of s (y ∷ ys)) (s ∷ y ∷ ys) s))

-- from N at most n and Φ at most f: twice as many vertices and edges as between two rewrites
pub inside-fits : {n f : ℕ} {g g' : Graph} → Good g → Small n f g → Tame g g' → (t : Through g g') → (node_count (with_additions t.by g) ≤ 2 * n)
    × (length (with_additions t.by g).edges ≤ 2 * (n + f))
inside-fits {g = g} {g'} h s t w =
    let a = small-fits g h s in
    let b = tame-fits s t in
    (omega (arith, a.vertices, b.vertices, w.vertices), omega (arith, a.edges, b.edges, w.edges))
