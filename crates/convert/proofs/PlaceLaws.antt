-- Edges that are sorted by the places of their ends are sorted by their k-mers. Assumes nothing.
use mathlib.Core.Path.{◌≡◌, sym, ap, ◌∙◌}
use mathlib.Core.Bool.{false}
use mathlib.Core.List.{List, [], Memᴰ}
use Prim.Native.Nat.{ℕ, zero, suc, ◌+◌, ◌*◌, ◌≤◌, ◌<◌}
use native.Mathlib.Omega.{arith}
use native.Mathlib.Decide.{ℕ_discrete}
use lib.ListN.{get_or}
use Rattle.defs.specs.Lists.{tab, tab_from}
use Rattle.defs.specs.SeqGraph.{Edge, Graph, vertex_sequence}
use Rattle.defs.specs.Assembly.{bytes_before, edge_before, edges_sorted}
use Rattle.tabs.proofs.Tabs.{get_or-tab}
use Rattle.tabs.proofs.ListTabs.{mem-tab, of-mem-tab, of-mem-tab-from}
use Rattle.store.specs.Store.{edge_in, edges_in, seq_in, graph_in, EndsBelow}
use Rattle.sort.proofs.PermutationLaws.{stands, stands-once}
use Rattle.kmer_order.specs.Order.{KmerOrder}
use Rattle.kmer_order.proofs.BytesOrder.{before_same}
use Rattle.edge_order.specs.Order.{from_place, to_place, EdgeOrder}
use Rattle.edge_order.proofs.PlaceOrder.{not_earlier}
use Rattle.convert.specs.Convert.{Separate, Places}
use Rattle.convert.proofs.SortLaws.{Sorted, EachOnce, edge-no, edge_same, sorted-unique, of-sort, mem-sort, sorted_sort, once-sort}

-- ---- the order of the places is that of the k-mers

module _ {m n : ℕ} {es vs p order place : List ℕ} (S : Separate m n es vs p) (O : KmerOrder n vs p order) (P : Places n order place) where
  home : (v : ℕ) → v < n → (get_or place v 0 < n) × (get_or order (get_or place v 0) 0 ≡ v)
  home v h =
      let s = stands O.numbers v h in
      let q : get_or place v 0 ≡ s.0 = ap (λ (x : ℕ). get_or place x 0) (sym s.2) ∙ P.at s.0 s.1 in
      (omega (arith, s.1), ap (λ (x : ℕ). get_or order x 0) q ∙ s.2)

  home_same : (u v : ℕ) → u < n → v < n → get_or place u 0 ≡ get_or place v 0 → u ≡ v
  home_same u v a b q = sym (home u a).1 ∙ ap (λ (x : ℕ). get_or order x 0) q ∙ (home v b).1

  -- a vertex that is not placed before another does not come before it
  not-before : (u v : ℕ) → u < n → v < n → get_or place v 0 ≤ get_or place u 0 → bytes_before (seq_in vs p u) (seq_in vs p v) ≡ false
  not-before u v a b l = elim (ℕ_discrete (get_or place v 0) (get_or place u 0)) [
    | yes q ↦ ap (λ (x : ℕ). bytes_before (seq_in vs p u) (seq_in vs p x)) (home_same v u b a q) ∙ before_same (seq_in vs p u)
    | no ne ↦ sym (λ i. bytes_before (seq_in vs p ((home u a).1 i)) (seq_in vs p ((home v b).1 i)))
        ∙ O.ordered.at (get_or place v 0) (get_or place u 0) (omega arith) (omega arith) (home u a).0
  ]

  module _ (k : ℕ) (E : EndsBelow n m es) where
    abbrev g : Graph
    g = graph_in k n m es vs p

    kmer-is : (v : ℕ) → v < n → vertex_sequence g v ≡ seq_in vs p v
    unfolding vertex_sequence
    kmer-is v b = get_or-tab n (seq_in vs p) v [] b

    kmer-not : (u v : ℕ) → u < n → v < n → get_or place v 0 ≤ get_or place u 0 → bytes_before (vertex_sequence g u) (vertex_sequence g v) ≡ false
    kmer-not u v a b l = (λ i. bytes_before (kmer-is u a i) (kmer-is v b i)) ∙ not-before u v a b l

    kmer-same : (u v : ℕ) → u < n → v < n → vertex_sequence g u ≡ vertex_sequence g v → u ≡ v
    kmer-same u v a b q = S.kmers u v a b (sym (kmer-is u a) ∙ q ∙ kmer-is v b)

    edge-later : (d e : ℕ) → d < m → e < m → from_place es place e ≤ from_place es place d
        → (from_place es place d ≡ from_place es place e → to_place es place e ≤ to_place es place d) → edge_before g (edge_in es d) (edge_in es e)
        ≡ false
    edge-later d e a b h l = edge-no g (edge_in es d) (edge_in es e)
        (kmer-not (get_or es (4 * d) 0) (get_or es (4 * e) 0) (E.at d a).0 (E.at e b).0 h)
        (λ q. kmer-not (get_or es (4 * d + 1) 0) (get_or es (4 * e + 1) 0) (E.at d a).1 (E.at e b).1
        (l (ap (λ (x : ℕ). get_or place x 0) (kmer-same (get_or es (4 * d) 0) (get_or es (4 * e) 0) (E.at d a).0 (E.at e b).0 q))))

    -- edges with the same ends are the same
    edge-is : (a b : ℕ) → a < m → b < m → edge_before g (edge_in es a) (edge_in es b) ≡ false → edge_before g (edge_in es b) (edge_in es a) ≡ false → a ≡ b
    edge-is a b h l f e =
        let s = edge_same g (edge_in es a) (edge_in es b) f e in
        S.edges a b h l
        (kmer-same (get_or es (4 * a) 0) (get_or es (4 * b) 0) (E.at a h).0 (E.at b l).0 s.0)
        (kmer-same (get_or es (4 * a + 1) 0) (get_or es (4 * b + 1) 0) (E.at a h).1 (E.at b l).1 s.1)

    edge-equal : (a b : ℕ) → a < m → b < m → edge_in es a ≡ edge_in es b → a ≡ b
    edge-equal a b h l q = S.edges a b h l (ap (λ (e : Edge). e.from) q) (ap (λ (e : Edge). e.to) q)

    -- ---- the sorted edges

    sorted-from : (f : ℕ → Edge) (s c : ℕ) → ((i j : ℕ) → s ≤ i → i < j → j < s + c → edge_before g (f j) (f i) ≡ false) → Sorted g (tab_from s c f)
    unfolding tab_from
    sorted-from f s zero h = tt
    sorted-from f s (suc c) h = (
      λ y m. let z = of-mem-tab-from (suc s) c f m in rw z.2 (h s (suc s + z.0) (omega arith) (omega arith) (omega (arith, z.1))),
      sorted-from f (suc s) c (λ i j a b d. h i j (omega arith) b (omega arith)),
    )

    once-from : (f : ℕ → Edge) (s c : ℕ) → ((i j : ℕ) → s ≤ i → i < j → j < s + c → f i ≡ f j → ⊥) → EachOnce (tab_from s c f)
    unfolding tab_from
    once-from f s zero h = tt
    once-from f s (suc c) h = (
      λ m. let z = of-mem-tab-from (suc s) c f m in h s (suc s + z.0) (omega arith) (omega arith) (omega (arith, z.1)) z.2,
      once-from f (suc s) c (λ i j a b d. h i j (omega arith) b (omega arith)),
    )

    module _ {eorder : List ℕ} (Q : EdgeOrder m es place eorder) where
      abbrev at : ℕ → Edge
      at i = edge_in es (get_or eorder i 0)

      forth : (x : Edge) → Memᴰ x (tab m at) → Memᴰ x (edges_in m es)
      forth x k = let z = of-mem-tab m at k in rw z.2 (mem-tab m (edge_in es) (get_or eorder z.0 0) (Q.numbers.below z.0 z.1))

      back : (x : Edge) → Memᴰ x (edges_in m es) → Memᴰ x (tab m at)
      back x k =
          let z = of-mem-tab m (edge_in es) k in
          let s = stands Q.numbers z.0 z.1 in
          rw (z.2 ∙ ap (edge_in es) (sym s.2)) (mem-tab m at s.0 s.1)

      anti : (x y : Edge) → Memᴰ x (tab m at) → Memᴰ y (tab m at) → edge_before g x y ≡ false → edge_before g y x ≡ false → x ≡ y
      anti x y a b f e =
          let u = of-mem-tab m at a in
          let v = of-mem-tab m at b in
          let i = get_or eorder u.0 0 in
          let j = get_or eorder v.0 0 in
          u.2 ∙ ap (edge_in es) (edge-is i j (Q.numbers.below u.0 u.1) (Q.numbers.below v.0 v.1) (rw (u.2, v.2) at f)
          (rw (u.2, v.2) at e)) ∙ sym v.2

      pub places-sorted : tab m at ≡ edges_sorted g
      unfolding edges_sorted
      places-sorted = sorted-unique g (tab m at) _
          (sorted-from at 0 m (λ i j a b c. let d = Q.ordered.at i j (omega arith) b (omega arith) in let z =
          not_earlier es place (get_or eorder j 0) (get_or eorder i 0) d in
          edge-later (get_or eorder j 0) (get_or eorder i 0) (Q.numbers.below j (omega arith)) (Q.numbers.below i (omega arith)) z.0
          z.1))
          (sorted_sort g (edges_in m es))
          (once-from at 0 m (λ i j a b c q. omega (
            arith,
            stands-once Q.numbers i j (omega arith) (omega arith)
                (edge-equal (get_or eorder i 0) (get_or eorder j 0) (Q.numbers.below i (omega arith)) (Q.numbers.below j (omega arith)) q),
          )))
          (once-sort g (edges_in m es) (once-from (edge_in es) 0 m (λ i j a b c q. omega (arith, edge-equal i j (omega arith) (omega arith) q))))
          (λ x k. mem-sort g (edges_in m es) x (forth x k))
          (λ x k. back x (of-sort g (edges_in m es) x k))
          anti
