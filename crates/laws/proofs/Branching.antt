-- S: over all vertices, the outgoing edges but one. It is edges less vertices plus sinks, and a restriction does not raise it.
-- Assumes nothing.
use Prim.Native.Nat.{ℕ, zero, suc, ◌+◌, ◌-◌, ◌≤◌, ◌<◌}
use native.Mathlib.Omega.{arith}
use mathlib.Core.Path.{◌≡◌, refl, sym, ap, ◌∙◌}
use mathlib.Core.Logic.{◌⊎◌, ⊎_elim}
use mathlib.Core.Bool.{Bool, true, cond, ◌&&◌}
use mathlib.Core.List.Memᴰ
use mathlib.Core.List.{List, [], ◌∷◌, map, Memᴰ}
use lib.Dec.{eqb, ltb}
use lib.ListN.{length}
use borrow.Author.Tests.{eqb-true, eqb-false, eq-eqb, ne_eqb, lt-ltb, le-ltb}
use Rattle.defs.specs.Lists.{keep_if, bit, rank}
use Rattle.defs.specs.SeqGraph.{Edge, Graph, node_count, edges_from, out_degree, keeps, compact_vertices, remap_edge}
use Rattle.defs.specs.Strings.{HasEdge}
use Rattle.laws.proofs.Walks.{IsSink, by_test}
use Rattle.laws.proofs.ListLaws.{and_split, by_order, rank-yes, rank-no, rank-inj, keep_if-yes, keep_if-no}
use Rattle.laws.proofs.Nets.{Bounded, part_of, order-restrict, link-restrict}
use Rattle.laws.proofs.Edges.{of-edges_from, in-edges_from, nonempty, keeps-not, keeps-other, keeps-gone, not-keeps}
use Rattle.laws.proofs.Counts.{total, Distinct, bit_le}

unfoldable pub sum_to : (ℕ → ℕ) → ℕ → ℕ
sum_to f zero = 0
sum_to f (suc n) = f n + sum_to f n

-- no edge leaves v
unfoldable pub ends : Graph → ℕ → Bool
ends g v = eqb (out_degree g v) 0

unfoldable pub sinks : Graph → ℕ
sinks g = sum_to (λ v. bit (ends g v)) (node_count g)

-- S
unfoldable pub branching : Graph → ℕ
branching g = sum_to (λ v. out_degree g v - 1) (node_count g)

pub sum-le : (f h : ℕ → ℕ) (n : ℕ) → ((v : ℕ) → v < n → f v ≤ h v) → sum_to f n ≤ sum_to h n
unfolding sum_to
sum-le f h zero k = omega arith
sum-le f h (suc n) k = omega (arith, k n (omega arith), sum-le f h n (λ v l. k v (omega arith)))

pub sum_same : (f h : ℕ → ℕ) (n : ℕ) → ((v : ℕ) → v < n → f v ≡ h v) → sum_to f n ≡ sum_to h n
unfolding sum_to
sum_same f h zero k = refl
sum_same f h (suc n) k = omega (arith, k n (omega arith), sum_same f h n (λ v l. k v (omega arith)))

pub sum-add : (f h : ℕ → ℕ) (n : ℕ) → sum_to (λ v. f v + h v) n ≡ sum_to f n + sum_to h n
unfolding sum_to
sum-add f h zero = refl
sum-add f h (suc n) = omega (arith, sum-add f h n)

pub sum-zero : (f : ℕ → ℕ) (n : ℕ) → ((v : ℕ) → v < n → f v ≡ 0) → sum_to f n ≡ 0
unfolding sum_to
sum-zero f zero k = refl
sum-zero f (suc n) k = omega (arith, k n (omega arith), sum-zero f n (λ v l. k v (omega arith)))

pub sum_ones : (n : ℕ) → sum_to (λ _. 1) n ≡ n
unfolding sum_to
sum_ones zero = refl
sum_ones (suc n) = omega (arith, sum_ones n)

-- nothing behind m
sum_more : (f : ℕ → ℕ) (m n : ℕ) → m ≤ n → ((v : ℕ) → m ≤ v → f v ≡ 0) → sum_to f n ≡ sum_to f m
unfolding sum_to
sum_more f m zero l k = let e : m ≡ 0 = omega arith in rw e
sum_more f m (suc n) l k = by_order m n
    (λ h. omega (arith, k n h, sum_more f m n h k))
    (λ h. let e : m ≡ suc n = omega arith in rw e)

-- one place only
sum-at : (f f' : ℕ → ℕ) (x n : ℕ) → x < n → ((v : ℕ) → (v ≡ x → ⊥) → f' v ≡ f v) → f' x ≡ 0 → sum_to f n ≡ f x + sum_to f' n
unfolding sum_to
sum-at f f' x zero l k z = absurd (omega arith)
sum-at f f' x (suc n) l k z = by_test (eqb n x)
    (λ t. let e = eqb-true n x t in
    omega (arith, ap f e, ap f' e, sum_same f' f n (λ v h. k v (λ i. omega arith))))
    (λ t. let e = eqb-false n x t in omega (arith, k n e, sum-at f f' x n (by_order n x (λ h. absurd (e (omega arith))) (λ h. h)) k z))

pub sum-point : (x b n : ℕ) → sum_to (λ v. cond (eqb v x) b 0) n ≤ b
unfolding sum_to
sum-point x b zero = omega arith
sum-point x b (suc n) = by_test (eqb n x)
    (λ t. let e = eqb-true n x t in rw t (omega (arith, sum-zero (λ v. cond (eqb v x) b 0) n (λ v h. rw (ne_eqb v x (λ i. omega arith))))))
    (λ t. rw t (omega (arith, sum-point x b n)))

pub sum_one : (x n : ℕ) → x < n → sum_to (λ v. bit (eqb x v)) n ≡ 1
unfolding bit
sum_one x n l =
    omega (
      arith,
      sum-at (λ v. bit (eqb x v)) (λ _. 0) x n l (λ v k. rw (ne_eqb x v (λ e. k (sym e)))) refl,
      sum-zero (λ _. 0) n (λ v h. refl),
      ap bit (eq-eqb x x refl),
    )

-- what is kept and what goes
pub sum_kept : (h : ℕ → ℕ) (n : ℕ) (gone : List ℕ) → Distinct gone → ((v : ℕ) → Memᴰ v gone → v < n)
    → sum_to (λ v. cond (keeps gone v) (h v) 0) n + total h gone ≡ sum_to h n
unfolding total
sum_kept h n [] d b = omega (arith, sum_same (λ v. cond (keeps [] v) (h v) 0) h n (λ v l. rw (keeps-other [] v Memᴰ.not-nil)))
sum_kept h n (x ∷ gone) d b =
    let ih = sum_kept h n gone d.1 (λ v m. b v (Memᴰ.tail m)) in
    let f : ℕ → ℕ = λ v. cond (keeps gone v) (h v) 0 in
    let f' : ℕ → ℕ = λ v. cond (keeps (x ∷ gone) v) (h v) 0 in
    let k = sum-at f f' x n (b x (Memᴰ.head refl))
    (λ v i. ap (λ z. cond z (h v) 0) (by_test (keeps gone v)
    (λ t. keeps-other (x ∷ gone) v (λ m. ⊎_elim i (keeps-not gone v t) (Memᴰ.cases_cons m)) ∙ sym t)
    (λ t. keeps-gone (x ∷ gone) v (Memᴰ.tail (not-keeps gone v t)) ∙ sym t)))
    (rw (keeps-gone (x ∷ gone) x (Memᴰ.head refl))) in
    let e : f x ≡ h x = rw (keeps-other gone x d.0) in
    omega (arith, ih, k, e)

-- closing up
pub sum-restrict : (p : ℕ → Bool) (f h : ℕ → ℕ) (n : ℕ) → ((v : ℕ) → v < n → p v ≡ true → f (rank p v) ≤ h v) → sum_to f (rank p n) ≤ sum_to h n
unfolding sum_to rank
sum-restrict p f h zero k = omega arith
sum-restrict p f h (suc n) k = by_test (p n)
    (λ t. rw (rank-yes p n t) (omega (arith, k n (omega arith) t, sum-restrict p f h n (λ v l. k v (omega arith)))))
    (λ t. rw (rank-no p n t) (omega (arith, sum-restrict p f h n (λ v l. k v (omega arith)))))

-- the outgoing edges of all vertices are all edges
count-cons : (p : Edge → Bool) (e : Edge) (es : List Edge) → length (keep_if p (e ∷ es)) ≡ bit (p e) + length (keep_if p es)
unfolding bit
count-cons p e es = by_test (p e) (λ t. rw (keep_if-yes p e es t, t) (omega arith)) (λ t. rw (keep_if-no p e es t, t) (omega arith))

abbrev leaving_count : List Edge → ℕ → ℕ
leaving_count es v = length (keep_if (λ (e : Edge). eqb e.from v) es)

leave-all : (es : List Edge) (n : ℕ) → ((e : Edge) → Memᴰ e es → e.from < n) → sum_to (leaving_count es) n ≡ length es
unfolding keep_if
leave-all [] n k = sum-zero (leaving_count []) n (λ v h. refl)
leave-all (e ∷ es) n k =
    omega (
      arith,
      sum_same (leaving_count (e ∷ es)) (λ v. bit (eqb e.from v) + leaving_count es v) n (λ v h. count-cons (λ (x : Edge). eqb x.from v) e es),
      sum-add (λ v. bit (eqb e.from v)) (leaving_count es) n,
      sum_one e.from n (k e (Memᴰ.head refl)),
      leave-all es n (λ x m. k x (Memᴰ.tail m)),
    )

less_one : (d : ℕ) → (d - 1) + 1 ≡ d + bit (eqb d 0)
unfolding bit
less_one zero = refl
less_one (suc d) = rw (ne_eqb (suc d) 0 (λ e. omega arith)) (omega arith)

-- S + V = E + sinks
pub branching-is : (g : Graph) → Bounded g → branching g + node_count g ≡ length g.edges + sinks g
unfolding branching sinks ends
branching-is g b =
    omega (
      arith,
      sum-add (λ v. out_degree g v - 1) (λ _. 1) (node_count g),
      sum_ones (node_count g),
      sum_same (λ v. (out_degree g v - 1) + 1) (λ v. out_degree g v + bit (eqb (out_degree g v) 0)) (node_count g) (λ v _. less_one (out_degree g v)),
      sum-add (out_degree g) (λ v. bit (eqb (out_degree g v) 0)) (node_count g),
      degrees,
    )
  where
    degrees : sum_to (out_degree g) (node_count g) ≡ length g.edges
    degrees = unfold out_degree edges_from in (leave-all g.edges (node_count g) (λ e m. (b e m).0))

-- E − V ≤ S
pub surplus-branching : (g : Graph) → Bounded g → length g.edges ≤ branching g + node_count g
surplus-branching g b = omega (arith, branching-is g b)

-- a restriction
module _ (p : ℕ → Bool) (g : Graph) where
  abbrev both : Edge → Bool
  both e = p e.from && p e.to

  fewer : (v : ℕ) → p v ≡ true → (es : List Edge) → leaving_count (map (remap_edge p) (keep_if both es)) (rank p v) ≤ leaving_count es v
  unfolding keep_if
  fewer v t [] = omega arith
  fewer v t (e ∷ es) = by_test (both e)
      (λ k. rw (keep_if-yes both e es k) (omega (
        arith,
        count-cons (λ (x : Edge). eqb x.from (rank p v)) (remap_edge p e)
            (map (remap_edge p) (keep_if both es)),
        count-cons (λ (x : Edge). eqb x.from v) e es,
        fewer v t es,
        one k,
      )))
      (λ k. rw (keep_if-no both e es k) (omega (arith, count-cons (λ (x : Edge). eqb x.from v) e es, fewer v t es)))
    where
      one : both e ≡ true → bit (eqb (remap_edge p e).from (rank p v)) ≤ bit (eqb e.from v)
      one k = unfold remap_edge bit in (by_test (eqb (rank p e.from) (rank p v))
          (λ y. rw (eq-eqb e.from v (rank-inj p e.from v (and_split _ _ k).0 t (eqb-true _ _ y)))
          (omega (arith, bit_le (eqb (rank p e.from) (rank p v)))))
          (λ y. rw y (omega arith)))

  pub fewer-out : (v : ℕ) → p v ≡ true → out_degree (compact_vertices p g) (rank p v) ≤ out_degree g v
  unfolding out_degree edges_from compact_vertices
  fewer-out v t = fewer v t g.edges

  pub branching-restrict : branching (compact_vertices p g) ≤ branching g
  unfolding branching
  branching-restrict =
      rw (order-restrict p g) (sum-restrict p (λ v. out_degree (compact_vertices p g) v - 1) (λ v. out_degree g v - 1) (node_count g) (λ v l t.
      omega (arith, fewer-out v t)))

  -- a sink of the restriction is one of what is kept
  pub sink-part : (v : ℕ) → v < node_count g → p v ≡ true → ends (compact_vertices p g) (rank p v) ≡ true → IsSink (part_of p g) v
  unfolding ends out_degree
  sink-part v l t e = (
    (l, t),
    λ w h.
        let k = link-restrict p g v w h.0 t h.2 in
        none_in (edges_from (compact_vertices p g) (rank p v)) (eqb-true _ _ e) (in-edges_from (compact_vertices p g) (rank p v) k.0 k.1 k.2),
  )
    where
      none_in : {x : Edge} (l : List Edge) → length l ≡ 0 → Memᴰ x l → ⊥
      none_in [] d m = Memᴰ.not-nil m
      none_in (x ∷ l) d m = omega arith

pub ends_is : (g : Graph) (v : ℕ) → ((w : ℕ) → HasEdge g v w → ⊥) → ends g v ≡ true
unfolding ends out_degree
ends_is g v h = by_test (eqb (length (edges_from g v)) 0) (λ t. t)
    (λ t. let n = eqb-false (length (edges_from g v)) 0 t in
    let z = nonempty (edges_from g v) (by_order (length (edges_from g v)) 0 (λ l. absurd (n (omega arith))) (λ l. l)) in
    let k = of-edges_from g v z.0 z.1 in
    absurd (h z.0.to (z.0, k.0, k.1, refl)))

-- The sinks of a changed graph: old ones that stay, and x at most, which counts b.
module _ (g G : Graph) (gone : List ℕ) (x b : ℕ) (grows : node_count g ≤ node_count G) (once : Distinct gone) (old : (v : ℕ) → Memᴰ v gone → v < node_count g)
    (known : (v : ℕ) → IsSink (part_of (keeps gone) G) v → ((v < node_count g) × ((w : ℕ) → HasEdge g v w → ⊥)) ⊎ ((v ≡ x) × (1 ≤ b))) where
  stay : ℕ → ℕ
  stay v = cond (ltb v (node_count g)) (cond (keeps gone v) (bit (ends g v)) 0) 0

  extra : ℕ → ℕ
  extra v = cond (eqb v x) b 0

  counted : (v : ℕ) → v < node_count G → keeps gone v ≡ true → bit (ends (compact_vertices (keeps gone) G) (rank (keeps gone) v)) ≤ stay v + extra v
  unfolding stay extra bit
  counted v l t = by_test (ends (compact_vertices (keeps gone) G) (rank (keeps gone) v))
      (λ e. ⊎_elim
      (λ k. rw (lt-ltb v (node_count g) k.0, t, ends_is g v k.1) (omega (arith, bit_le (ends (compact_vertices (keeps gone) G) (rank (keeps gone) v)))))
      (λ k. rw (eq-eqb v x k.0) (omega (arith, bit_le (ends (compact_vertices (keeps gone) G) (rank (keeps gone) v)), k.1)))
      (known v (sink-part (keeps gone) G v l t e)))
      (λ e. rw e (omega arith))

  stay-sum : sum_to stay (node_count G) + total (λ v. bit (ends g v)) gone ≡ sinks g
  unfolding stay sinks
  stay-sum =
      omega (
        arith,
        sum_more stay (node_count g) (node_count G) grows (λ v l. rw (le-ltb v (node_count g) l)),
        sum_same stay (λ v. cond (keeps gone v) (bit (ends g v)) 0) (node_count g) (λ v l. rw (lt-ltb v (node_count g) l)),
        sum_kept (λ v. bit (ends g v)) (node_count g) gone once old,
      )

  pub sinks-by : sinks (compact_vertices (keeps gone) G) + total (λ v. bit (ends g v)) gone ≤ sinks g + b
  unfolding sinks extra
  sinks-by =
      omega (
        arith,
        ap (λ z. sum_to (λ v. bit (ends (compact_vertices (keeps gone) G) v)) z) (order-restrict (keeps gone) G),
        sum-restrict (keeps gone) (λ v. bit (ends (compact_vertices (keeps gone) G) v)) (λ v. stay v + extra v) (node_count G) counted,
        sum-add stay extra (node_count G),
        sum-point x b (node_count G),
        stay-sum,
      )
