-- The steps of closing up make `compact_vertices`. Assumes nothing.
use mathlib.Core.Path.{◌≡◌, refl, sym, ap, ◌∙◌, subst}
use mathlib.Core.Bool.{Bool, true, false, cond, not, ◌&&◌}
use mathlib.Core.List.{List, [], ◌∷◌, ◌++◌, map, Memᴰ}
use Prim.Native.Nat.{ℕ, zero, suc, ◌+◌, ◌*◌, ◌-◌, ◌≤◌, ◌<◌}
use native.Mathlib.Nat.{add-zero}
use native.Mathlib.Omega.{arith}
use lib.ListN.{length, get_or}
use lib.Dec.{eqb}
use Rattle.defs.specs.Lists.{tab}
use Rattle.tabs.proofs.Tabs.{tab-ext, length-tab}
use Rattle.defs.specs.Lists.{bit, elem_of, keep_if, keep_at, rank}
use Rattle.defs.specs.SeqGraph.{Edge, Graph, remove_vertices_by_id, compact_vertices, remap_edge, keeps, node_count}
use Rattle.laws.proofs.Nets.{Bounded, bounded-restrict}
use Rattle.store.specs.Store.{edge_in, edges_in, seq_in, graph_in, EndsBelow, kept_by}
use Rattle.tabs.proofs.ListTabs.{mem-tab, of-mem-tab}
use Rattle.tabs.proofs.Ranks.{rank_same}
use Rattle.compact.specs.declared.Counts.{Counts}
use Rattle.compact.specs.Compact.{Marked, Renumbered, VertsClosed, EdgesClosed, unmarked, Compactable, Compacted, Removed}

-- ---- two tests that agree below the order close up alike

module _ (p q : ℕ → Bool) where
  keep_at-same : {A : Type 0} (xs : List A) (i : ℕ) → ((v : ℕ) → v < i + length xs → p v ≡ q v) → keep_at p i xs ≡ keep_at q i xs
  unfolding keep_at
  keep_at-same [] i h = refl
  keep_at-same {A} (x ∷ xs) i h =
      rw (h i (omega arith)) (ap (λ (l : List A). cond (q i) (x ∷ l) l) (keep_at-same xs (suc i) (λ v b. h v (omega arith))))

  module _ (n : ℕ) (h : (v : ℕ) → v < n → p v ≡ q v) where
    renumber-same : (e : Edge) → e.from < n → e.to < n → remap_edge p e ≡ remap_edge q e
    unfolding remap_edge
    renumber-same e a b = rw (rank_same p q e.from (λ v c. h v (omega arith)), rank_same p q e.to (λ v c. h v (omega arith)))

    edges-same : (es : List Edge) → ((e : Edge) → Memᴰ e es → (e.from < n) × (e.to < n))
        → map (remap_edge p) (keep_if (λ (e : Edge). p e.from && p e.to) es) ≡ map (remap_edge q) (keep_if (λ (e : Edge). q e.from && q e.to) es)
    unfolding keep_if
    edges-same [] b = refl
    edges-same (e ∷ es) b =
        let c = b e (Memᴰ.head refl) in
        let ih = edges-same es (λ f m. b f (Memᴰ.tail m)) in
        rw (h e.from c.0, h e.to c.1) (both _ _ (q e.from && q e.to) (renumber-same e c.0 c.1) ih)
      where
        both : (xs ys : List Edge) (t : Bool) → remap_edge p e ≡ remap_edge q e → map (remap_edge p) xs ≡ map (remap_edge q) ys
            → map (remap_edge p) (cond t (e ∷ xs) xs) ≡ map (remap_edge q) (cond t (e ∷ ys) ys)
        both xs ys true x y = λ i. x i ∷ y i
        both xs ys false x y = y

  pub restrict-same : (g : Graph) → ((v : ℕ) → v < node_count g → p v ≡ q v) → Bounded g → compact_vertices p g ≡ compact_vertices q g
  unfolding compact_vertices node_count
  restrict-same g h b = λ i. record {
    k = g.k;
    verts = keep_at-same g.verts 0 (λ v c. h v (omega arith)) i;
    edges =
        edges-same (length g.verts) h g.edges b i;
  }

pub order-in : (k n m : ℕ) (es vs p : List ℕ) → node_count (graph_in k n m es vs p) ≡ n
unfolding node_count
order-in k n m es vs p = length-tab n (seq_in vs p)

-- ---- ends, by index and by membership

pub ends-mem : {n m : ℕ} {es : List ℕ} → EndsBelow n m es → (e : Edge) → Memᴰ e (edges_in m es) → (e.from < n) × (e.to < n)
ends-mem {n} {m} {es} E e k =
    let r = of-mem-tab m (edge_in es) k in
    (omega (arith, ap (λ (x : Edge). x.from) r.2, (E.at r.0 r.1).0), omega (arith, ap (λ (x : Edge). x.to) r.2, (E.at r.0 r.1).1))

pub mem-ends : (n m : ℕ) (es : List ℕ) → ((e : Edge) → Memᴰ e (edges_in m es) → (e.from < n) × (e.to < n)) → EndsBelow n m es
mem-ends n m es b = record { at = λ k h. b (edge_in es k) (mem-tab m (edge_in es) k h) }

pub ends-weaker : {n m : ℕ} {es : List ℕ} (k : ℕ) → n ≤ k → EndsBelow n m es → EndsBelow k m es
ends-weaker k h E = record { at = λ e b. (omega (arith, (E.at e b).0), omega (arith, (E.at e b).1)) }

-- ---- the whole

module _ {n m : ℕ} {es vs mp : List ℕ} (F : Compactable n m es vs mp) {mp' : List ℕ} (R : Renumbered mp n mp') where
  abbrev old : ℕ → List ℕ → Graph
  old k p = graph_in k n m es vs p

  old-bounded : (k : ℕ) (p : List ℕ) → Bounded (old k p)
  old-bounded k p = λ e b. rw (order-in k n m es vs p) (ends-mem F.ends e b)

  pub compacted : {r : Counts} {es' vs' : List ℕ} → VertsClosed mp' n vs r.n vs' → EdgesClosed mp' m es r.m es' → Compacted n m es vs mp r es' vs' mp'
  unfolding compact_vertices
  compacted {r} {es'} {vs'} W E = record {
    most-n = W.most;
    most-m = E.most;
    ends = mem-ends r.n r.m es' (λ e b. rw (order-in 0 r.n r.m es' vs' []) at
        (subst (λ (x : Graph). Bounded x) (sym (closed 0 [])) (bounded-restrict (kept_by mp') (old 0 []) (old-bounded 0 [])) e b));
    within = W.within;
    is = λ k p. closed k p ∙ restrict-same (kept_by mp') (unmarked mp) (old k p) (λ v h. R.same v (omega (arith, order-in k n m es vs p))) (old-bounded k p);
    renumbered = R;
  }
    where
      closed : (k : ℕ) (p : List ℕ) → graph_in k r.n r.m es' vs' p ≡ compact_vertices (kept_by mp') (old k p)
      closed k p = λ i. record { k = k; verts = W.is p i; edges = E.is i }

-- marks made from a list
zero_bit : (t : Bool) → eqb (bit t) 0 ≡ not t
unfolding bit
zero_bit true = refl
zero_bit false = refl

pub removed : {n m : ℕ} {es vs mp₀ mp gone mp' es' vs' : List ℕ} {r : Counts} → Compactable n m es vs mp₀ → Marked gone n mp
    → Compacted n m es vs mp r es' vs' mp' → Removed n m es vs gone r es' vs' mp'
unfolding remove_vertices_by_id keeps
removed {n} {m} {es} {vs} {mp₀} {mp} {gone} {mp'} F M C = record {
  most-n = C.most-n;
  most-m = C.most-m;
  ends = C.ends;
  within = C.within;
  is = λ k p. C.is k p ∙ restrict-same (unmarked mp) (λ v. not (elem_of v gone)) (graph_in k n m es vs p) (λ v h.
      marks v (omega (arith, order-in k n m es vs p))) (λ e b. rw (order-in k n m es vs p) (ends-mem F.ends e b));
  numbered = C.renumbered.numbered;
  kept = λ v h. C.renumbered.same v h ∙ marks v h;
}
  where
    marks : (v : ℕ) → v < n → eqb (get_or mp v 0) 0 ≡ not (elem_of v gone)
    marks v h = ap (λ (x : ℕ). eqb x 0) (M.at v h) ∙ zero_bit (elem_of v gone)

-- the map is written, and keeps its length
pub compactable-kept : {n m : ℕ} {es vs mp mp' : List ℕ} → Compactable n m es vs mp → length mp' ≡ length mp → Compactable n m es vs mp'
compactable-kept C q = record { es-room = C.es-room; vs-room = C.vs-room; mp-room = omega (arith, C.mp-room); small = C.small; ends = C.ends }
