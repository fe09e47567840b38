-- What no rewrite raises: N (bytes and empty vertices), the bytes, Φ (edges less vertices plus a quarter of the bytes) and S (branching).
-- No rewrite doubles an edge.
-- Assumes nothing.
use Prim.Native.Nat.{ℕ, suc, ◌+◌, ◌/◌, ◌≤◌, ◌<◌}
use native.Mathlib.Omega.{arith}
use mathlib.Core.Path.{◌≡◌, refl, ap}
use mathlib.Core.Option.{some}
use mathlib.Core.List.{List, [], ◌∷◌, ◌++◌}
use lib.Dec.{ltb}
use lib.ListN.{length, length-append}
use borrow.Author.Tests.{ltb-true}
use Rattle.defs.specs.SeqGraph.{Graph, node_count, incoming_nodes, apply_change}
use Rattle.defs.specs.Zip.{merge_linear_chain}
use Rattle.defs.specs.Rewrites.{merges_suffices, is_merge, try_merge_diamond, try_merge_tails, try_split_common_suffix, try_merge_common_suffices, merge_change}
use Rattle.defs.specs.Simplify.{sequence_bytes, empty_vertices, fuel_for}
use Rattle.laws.proofs.ListLaws.{given-some, and_split}
use Rattle.laws.proofs.SplitForms.{split_of, diamond-parts, tails-parts}
use Rattle.laws.proofs.Edges.{of-mem-ins, nonempty}
use Rattle.laws.proofs.Counts.{total, Single, heft, heft-append}
use Rattle.laws.proofs.Changes.{single-change}
use Rattle.laws.proofs.Diamonds.{diamond-keeps, tails-keeps, diamond-bytes, diamond-heft, diamond-surplus, tails-surplus}
use Rattle.laws.proofs.Diamonds.{tails-bytes-fall, tails-heft, diamond-branching, tails-branching}
use Rattle.laws.proofs.Branching.{branching}
use Rattle.laws.proofs.BranchingLaws.{split-branching, merge-branching, zip-branching}
use Rattle.laws.proofs.Splits.{split-keeps'}
use Rattle.laws.proofs.SplitsCounts.{split-heft, split-bytes, split-order, split-surplus, split-single}
use Rattle.laws.proofs.Merge.{merge-keeps'}
use Rattle.laws.proofs.MergeCounts.{single-merge, order-merge, weight-merge, surplus-merge}
use Rattle.laws.proofs.ZipLaws.{Chained, zip-keeps}
use Rattle.laws.proofs.ZipCounts.{zip-single, zip-order, zip-weight, zip-surplus}
use Rattle.laws.proofs.Fuel.{Good, order-enough}

-- N: bytes and empty vertices
unfoldable pub weight : Graph → ℕ
weight g = sequence_bytes g.verts + empty_vertices g.verts

-- Φ without the vertices: edges and a quarter of the bytes
unfoldable pub load : Graph → ℕ
load g = length g.edges + sequence_bytes g.verts / 4

pub bytes-is : (vs : List (List ℕ)) → sequence_bytes vs ≡ total length vs
unfolding sequence_bytes total
bytes-is [] = refl
bytes-is (v ∷ vs) = ap (λ z. length v + z) (bytes-is vs)

verts-weigh : (vs : List (List ℕ)) → sequence_bytes vs + empty_vertices vs ≡ total heft vs
unfolding sequence_bytes empty_vertices total heft
verts-weigh [] = refl
verts-weigh ([] ∷ vs) = omega (arith, verts-weigh vs)
verts-weigh ((x ∷ xs) ∷ vs) = omega (arith, verts-weigh vs)

pub weight_is : (g : Graph) → weight g ≡ total heft g.verts
unfolding weight
weight_is g = verts-weigh g.verts

-- V ≤ N
pub order-weight : (g : Graph) → node_count g ≤ weight g
unfolding weight node_count
order-weight g = order-enough g.verts

pub enough-is : (g : Graph) → fuel_for g ≡ suc (weight g)
unfolding fuel_for weight
enough-is g = refl

-- from g to g' nothing is raised: N, the bytes, Φ, S
pub record Tame (g g' : Graph) : Type 0 where
  pub good : Good g'
  pub light : weight g' ≤ weight g
  pub fewer : sequence_bytes g'.verts ≤ sequence_bytes g.verts
  pub room : load g' + node_count g ≤ load g + node_count g'
  pub branches : branching g' ≤ branching g

pub tame-same : (g : Graph) → Good g → Tame g g
tame-same g h = record { good = h; light = omega arith; fewer = omega arith; room = omega arith; branches = omega arith }

pub tame-then : {a b c : Graph} → Tame a b → Tame b c → Tame a c
tame-then h k = record {
  good = k.good;
  light = omega (arith, h.light, k.light);
  fewer = omega (arith, h.fewer, k.fewer);
  room = omega (arith, h.room, k.room);
  branches = omega (arith, h.branches, k.branches);
}

-- from sums over the vertices
tame-by : (g g' : Graph) → Good g' → total heft g'.verts ≤ total heft g.verts → total length g'.verts ≤ total length g.verts
    → length g'.edges + node_count g + total length g'.verts / 4 ≤ length g.edges + node_count g' + total length g.verts / 4
    → branching g' ≤ branching g → Tame g g'
unfolding load
tame-by g g' h l b r s = record {
  good = h;
  light = omega (arith, weight_is g, weight_is g');
  fewer = omega (arith, bytes-is g.verts, bytes-is g'.verts);
  room = rw (bytes-is g.verts, bytes-is g'.verts) (omega arith);
  branches = s;
}

tame-less : (g g' : Graph) → Good g' → total heft g'.verts ≤ total heft g.verts → total length g'.verts ≤ total length g.verts
    → length g'.edges + node_count g ≤ length g.edges + node_count g' → branching g' ≤ branching g → Tame g g'
tame-less g g' h l b r s = tame-by g g' h l b (omega arith) s

-- a diamond takes a byte at least
pub diamond-tame : (g g' : Graph) (v : ℕ) → Good g → try_merge_diamond g v ≡ some g' → Tame g g'
    × (sequence_bytes g'.verts < sequence_bytes g.verts) × (weight g' < weight g)
diamond-tame g g' v (s, o) did = (
  tame-less g g' ((diamond-keeps g g' v s did).sound, single) (omega (arith, diamond-heft g g' v s o did))
      (omega (arith, diamond-bytes g g' v s o did)) (diamond-surplus g g' v s o did) (diamond-branching g g' v s o did),
  omega (arith, diamond-bytes g g' v s o did, bytes-is g.verts, bytes-is g'.verts),
  omega (arith, diamond-heft g g' v s o did, weight_is g, weight_is g'),
)
  where
    single : Single g'.edges
    single = unfold split_of in (let h = diamond-parts g g' v did in let k = given-some _ _ g' h.1 in rw (← k.1) (single-change g s.bounded _ o))

-- a set of tails takes a byte at least
pub tails-tame : (least : ℕ) → 3 < least → (g g' : Graph) (v : ℕ) → Good g → try_merge_tails least g v ≡ some g' → Tame g g'
    × (sequence_bytes g'.verts < sequence_bytes g.verts) × (weight g' < weight g)
tails-tame least pos g g' v (s, o) did = (
  tame-by g g' ((tails-keeps least (omega arith) g g' v s did).sound, single) (omega (arith, tails-heft least pos g g' v s o did))
      (omega (arith, tails-bytes-fall least pos g g' v s o did)) (tails-surplus least pos g g' v s o did)
      (tails-branching least pos g g' v s o did),
  omega (arith, tails-bytes-fall least pos g g' v s o did, bytes-is g.verts, bytes-is g'.verts),
  omega (arith, tails-heft least pos g g' v s o did, weight_is g, weight_is g'),
)
  where
    single : Single g'.edges
    single = unfold split_of in (let h = tails-parts least g g' v did in let k = given-some _ _ g' h.1 in rw (← k.1) (single-change g s.bounded _ o))

-- a split adds a vertex at least
pub split-tame : (g g' : Graph) (v : ℕ) → Good g → try_split_common_suffix g v ≡ some g' → Tame g g' × (node_count g < node_count g')
split-tame g g' v (s, o) did = (
  tame-less g g' ((split-keeps' g g' v s did).sound, split-single g g' v s o did) (split-heft g g' v s o did) (split-bytes g g' v s o did)
      (split-surplus g g' v s o did) (split-branching g g' v s o did),
  split-order g g' v s o did,
)

-- a merge takes a vertex at least
length-sub : (a b : List ℕ) → length (a ++ b) ≤ length a + length b
length-sub a b = omega (arith, length-append a b)

pub merge-tame : (g g' : Graph) (v : ℕ) → Good g → try_merge_common_suffices g v ≡ some g' → Tame g g' × (node_count g' < node_count g)
unfolding try_merge_common_suffices merges_suffices is_merge
merge-tame g g' v (s, o) did =
    let h = given-some _ _ g' did in
    let a = and_split (ltb 0 (length (incoming_nodes g v))) _ h.0 in
    let n = ltb-true 0 (length (incoming_nodes g v)) a.0 in
    let b = nonempty (incoming_nodes g v) n in
    let e = of-mem-ins g b.0 v b.1 in
    let i = rw e.3 at (s.bounded e.0 e.1).1 in
    let c = apply_change g (merge_change g v (incoming_nodes g v)) in
    let q : c ≡ g' = h.1 in (
      rw q at (tame-less g c ((rw (← q) at (merge-keeps' g g' v s did)).sound, single-merge g v s.bounded s.rank s.ranks i h.0 o)
          (weight-merge g v s.bounded s.rank s.ranks i h.0 o heft heft-append)
          (weight-merge g v s.bounded s.rank s.ranks i h.0 o length length-sub)
          (surplus-merge g v s.bounded s.rank s.ranks i h.0 o) (merge-branching g v s.bounded s.rank s.ranks i h.0 o)),
      omega (arith, order-merge g v s.bounded s.rank s.ranks i h.0 o, ap node_count q),
    )

-- a zipped chain takes a vertex at least
pub zip-tame : (g : Graph) (s y : ℕ) (ys : List ℕ) → Good g → Chained g s (y ∷ ys) → Tame g (merge_linear_chain g s (y ∷ ys))
    × (node_count (merge_linear_chain g s (y ∷ ys)) < node_count g)
zip-tame g s y ys (z, o) c = (
  tame-less g (merge_linear_chain g s (y ∷ ys)) (
    (zip-keeps g z.bounded z.rank z.ranks s y ys c).sound,
    zip-single g z.bounded z.rank z.ranks s y ys c o,
  )
      (zip-weight g z.bounded z.rank z.ranks s y ys c heft heft-append) (zip-weight g z.bounded z.rank z.ranks s y ys c length length-sub)
      (zip-surplus g z.bounded z.rank z.ranks s y ys c) (zip-branching g z.bounded z.rank z.ranks s y ys c),
  omega (arith, zip-order g z.bounded z.rank z.ranks s y ys c),
)
