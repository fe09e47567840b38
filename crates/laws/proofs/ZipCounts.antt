-- Zipping a chain takes vertices away, doubles no edge, and raises neither the weight nor edges less vertices.
-- Assumes nothing.
use Prim.Native.Nat.{ℕ, zero, suc, ◌+◌, ◌≤◌, ◌<◌}
use native.Mathlib.Omega.{arith}
use native.Mathlib.Nat.{not-suc-le-zero, le_of_suc-le-suc}
use mathlib.Core.Path.{◌≡◌, refl, sym, ap, ◌∙◌}
use mathlib.Core.Bool.{Bool, ◌&&◌}
use mathlib.Core.List.Memᴰ
use mathlib.Core.List.{List, [], ◌∷◌, ◌++◌, map, append-nil, Memᴰ}
use lib.Dec.{eqb}
use lib.ListN.{length, get_or, set, length-set, length-map}
use borrow.Author.Tests.{eqb-true, eqb-false}
use Rattle.defs.specs.Lists.{keep_if, keep_at, bit, concat}
use Rattle.defs.specs.SeqGraph.{Edge, Graph, node_count, vertex_sequence, keeps, edges_into, remove_vertices_by_id, compact_vertices, remap_edge}
use Rattle.defs.specs.Zip.{last_of, move_from, merge_linear_chain}
use Rattle.laws.proofs.Walks.{by_test}
use Rattle.laws.proofs.Nets.{Ranks, Bounded, edge-inside}
use Rattle.laws.proofs.Edges.{keeps-not, in-edges_into}
use Rattle.laws.proofs.Counts.{total, total-le, total-same, total-add, total-one, length-keep_if, Distinct, total_kept, Single}
use Rattle.laws.proofs.Counts.{single-renumber, length-flat, times_none, times-le, bit_le}
use Rattle.laws.proofs.MergeCounts.{and_no}
use Rattle.laws.proofs.SplitCounts.{total-map, length-flat-map}
use Rattle.laws.proofs.ZipLaws as Z
use Rattle.laws.proofs.ZipLaws.{Chained}

-- edges that stay apart are not doubled
pub single-map : (h : Edge → Edge) (es : List Edge)
    → ((e f : Edge) → Memᴰ e es → Memᴰ f es → (h f).from ≡ (h e).from → (h f).to ≡ (h e).to → (f.from ≡ e.from)
    × (f.to ≡ e.to)) → Single es → Single (map h es)
single-map h [] k s = tt
single-map h (e ∷ es) k s = (
  λ l. let a = Memᴰ.of_map h es l.1 in
      let b = k e a.0 (Memᴰ.head refl) (Memᴰ.tail a.1) (ap (λ (x : Edge). x.from) a.2 ∙ l.2) (ap (λ (x : Edge). x.to) a.2 ∙ l.3) in
      s.0 (a.0, a.1, b.0, b.1),
  single-map h es (λ e f m n. k e f (Memᴰ.tail m) (Memᴰ.tail n)) s.1,
)

pub mem-pos : {A : Type 0} {l : List A} {x : A} → Memᴰ x l → 0 < length l
mem-pos (Memᴰ.head e) = omega arith
mem-pos (Memᴰ.tail m) = omega arith

total-set : {A : Type 0} (f : A → ℕ) (d : A) (xs : List A) (i : ℕ) (x : A) → i < length xs → total f (set xs i x) + f (get_or xs i d) ≡ total f xs + f x
unfolding total
total-set f d [] i x h = absurd (not-suc-le-zero h)
total-set f d (y ∷ xs) zero x h = omega arith
total-set f d (y ∷ xs) (suc i) x h = omega (arith, total-set f d xs i x (le_of_suc-le-suc h))

flat-le : (f : List ℕ → ℕ) → ((a b : List ℕ) → f (a ++ b) ≤ f a + f b) → (q : ℕ → List ℕ) (x : ℕ) (l : List ℕ)
    → f (concat (map q (x ∷ l))) ≤ total (λ v. f (q v)) (x ∷ l)
unfolding concat total
flat-le f sub q x [] = omega (arith, ap f (append-nil (q x)))
flat-le f sub q x (y ∷ l) = omega (arith, sub (q x) (concat (map q (y ∷ l))), flat-le f sub q y l)

module _ (g : Graph) (bounded : Bounded g) (r : ℕ → ℕ) (ranks : Ranks g r) where
  pub distinct-chain : (x : ℕ) (ys : List ℕ) → Chained g x ys → Distinct (x ∷ ys)
  distinct-chain x [] c = (λ m. Memᴰ.not-nil m, tt)
  distinct-chain x (y ∷ ys) (h, o, i, c) = (λ m. omega (arith, (Z.rank-in g bounded r ranks y ys c x m).0, ranks x y h), distinct-chain y ys c)

  module _ (s y : ℕ) (ys : List ℕ) (chained : Chained g s (y ∷ ys)) where
    abbrev rest : List ℕ
    rest = y ∷ ys

    abbrev last : ℕ
    last = last_of s (y ∷ ys)

    abbrev G : Graph
    G = Z.G g bounded r ranks s y ys chained

    abbrev move : Edge → Edge
    move = move_from last (s ∷ y ∷ ys) s

    once-rest : Distinct rest
    once-rest = (distinct-chain s rest chained).1

    pub below : (v : ℕ) → Memᴰ v rest → v < node_count g
    below v m = let a = Z.pred_in g bounded r ranks s rest chained v m in (edge-inside g bounded a.0 v a.1).1

    below_g : (v : ℕ) → Memᴰ v rest → v < length G.verts
    below_g v m = unfold node_count in omega (arith, below v m, Z.order-G g bounded r ranks s y ys chained)

    -- no doubled edge
    clash-last : (e f : Edge) → Memᴰ e g.edges → Memᴰ f g.edges → f.from ≡ last → e.from ≡ s → f.to ≡ e.to → ⊥
    clash-last e f m n p q d =
        let i = chained.1 e.to (e, m, q, refl) in
        Z.out-last g bounded r ranks s y ys chained f.to (f, n, p, refl) (Memᴰ.tail (Memᴰ.head (d ∙ i)))

    apart : (e f : Edge) → Memᴰ e g.edges → Memᴰ f g.edges → (move f).from ≡ (move e).from → (move f).to ≡ (move e).to
        → (f.from ≡ e.from) × (f.to ≡ e.to)
    unfolding move_from
    apart e f m n p d =
        let to-s = Z.src-moved g bounded r ranks s y ys chained in
        let kept = Z.src-kept g bounded r ranks s y ys chained in
        by_test (eqb f.from last)
        (λ t. let i = eqb-true _ _ t in by_test (eqb e.from last)
        (λ u. (i ∙ sym (eqb-true _ _ u), d))
        (λ u. absurd (clash-last e f m n i (sym (kept e (eqb-false _ _ u)) ∙ (sym p ∙ to-s f n i)) d)))
        (λ t. let i = eqb-false _ _ t in by_test (eqb e.from last)
        (λ u. let j = eqb-true _ _ u in absurd (clash-last f e n m j (sym (kept f i) ∙ (p ∙ to-s e m j)) (sym d)))
        (λ u. (sym (kept f i) ∙ (p ∙ kept e (eqb-false _ _ u)), d)))

    pub zip-single : Single g.edges → Single (merge_linear_chain g s rest).edges
    unfolding merge_linear_chain remove_vertices_by_id compact_vertices
    zip-single once = single-renumber (keeps rest) (map move g.edges) (single-map move g.edges apart once)

    -- the vertices
    pub zip-order : node_count (merge_linear_chain g s rest) + length rest ≡ node_count g
    unfolding merge_linear_chain remove_vertices_by_id compact_vertices node_count
    zip-order =
        omega (
          arith,
          total_kept (λ _. 1) [] G.verts rest once-rest below_g,
          total-one rest,
          total-one G.verts,
          total-one (keep_at (keeps rest) 0 G.verts),
          length-set g.verts s (concat (map (vertex_sequence g) (s ∷ y ∷ ys))),
        )

    pub zip-weight : (f : List ℕ → ℕ) → ((a b : List ℕ) → f (a ++ b) ≤ f a + f b) → total f (merge_linear_chain g s rest).verts ≤ total f g.verts
    unfolding merge_linear_chain remove_vertices_by_id compact_vertices
    zip-weight f sub =
        omega (arith, total_kept f [] G.verts rest once-rest below_g, gone_same, joined-total, flat-le f sub (vertex_sequence g) s rest, tails-sum)
      where
        s-old : s < length g.verts
        s-old = unfold node_count in (Z.s-old g bounded r ranks s y ys chained)

        gone_same : total (λ v. f (get_or G.verts v [])) rest ≡ total (λ v. f (vertex_sequence g v)) rest
        gone_same = total-same (λ v. f (get_or G.verts v [])) (λ v. f (vertex_sequence g v)) rest (λ v m.
            ap f (unfold vertex_sequence in (Z.seq-other g bounded r ranks s y ys chained v
            (λ e. keeps-not rest s (Z.s-keep g bounded r ranks s y ys chained) (rw e at m)))))

        joined-total : total f G.verts + f (vertex_sequence g s) ≡ total f g.verts + f (concat (map (vertex_sequence g) (s ∷ rest)))
        joined-total = unfold vertex_sequence in (total-set f [] g.verts s (concat (map (vertex_sequence g) (s ∷ rest))) s-old)

        tails-sum : total (λ v. f (vertex_sequence g v)) (s ∷ rest) ≡ f (vertex_sequence g s) + total (λ v. f (vertex_sequence g v)) rest
        tails-sum = unfold total in refl

    -- the edges: those into the vertices that go, go
    abbrev stays : Edge → Bool
    stays e = keeps rest e.from && keeps rest e.to

    places : Edge → ℕ
    places e = bit (stays (move e)) + total (λ v. bit (eqb e.to v)) rest

    one_place : (e : Edge) → Memᴰ e g.edges → places e ≤ 1
    unfolding places move_from
    one_place e m = by_test (keeps rest e.to)
        (λ t. omega (arith, bit_le (stays (move e)), times_none e.to rest (keeps-not rest e.to t)))
        (λ t. omega (arith, and_no (keeps rest (move e).from) (keeps rest e.to) t, times-le e.to rest once-rest))

    pub zip-edges : length (merge_linear_chain g s rest).edges + length rest ≤ length g.edges
    unfolding merge_linear_chain remove_vertices_by_id compact_vertices places
    zip-edges =
        let es = g.edges in
        let to_mid : ℕ → List Edge = λ v. keep_if (λ (e : Edge). eqb e.to v) es in
        omega (
          arith,
          length-map (keep_if stays (map move es)) (remap_edge (keeps rest)),
          length-keep_if stays (map move es),
          total-map (λ e. bit (stays e)) move es,
          total-le places (λ _. 1) es one_place,
          total-one es,
          total-add (λ e. bit (stays (move e))) (λ e. total (λ v. bit (eqb e.to v)) rest) es,
          length-flat (λ v (e : Edge). eqb e.to v) es rest,
          length-flat-map to_mid rest,
          total-one rest,
          total-le (λ _. 1) (λ v. length (to_mid v)) rest (λ v m. unfold edges_into in
              (let a = Z.pred_in g bounded r ranks s rest chained v m in mem-pos (in-edges_into g v a.1.0 a.1.1 a.1.3))),
        )

    pub zip-surplus : length (merge_linear_chain g s rest).edges + node_count g ≤ length g.edges + node_count (merge_linear_chain g s rest)
    zip-surplus = omega (arith, zip-edges, zip-order)
