-- Lone vertices: one pass leaves none. Assumes nothing.
use mathlib.Core.Path.{◌≡◌, refl, sym, ap, ◌∙◌}
use mathlib.Core.Logic.{⊎_elim}
use mathlib.Core.Bool.{Bool, true, false, not, ◌&&◌}
use mathlib.Core.List.Memᴰ
use mathlib.Core.List.{List, [], ◌∷◌, map, Memᴰ}
use Prim.Native.Nat.{ℕ, zero, suc, ◌+◌, ◌≤◌, ◌<◌}
use native.Mathlib.Omega.{arith}
use native.Mathlib.Decide.{ℕ_discrete}
use lib.Dec.{eqb}
use mir.Val.{bool_byte}
use lib.ListN.{length, set, length-set}
use borrow.Author.Tests.{eqb-true, eqb-false, eq-eqb, ne_eqb}
use Rattle.defs.specs.Lists.{keep_if, rank, any_of, elem_of, up_from}
use Rattle.defs.specs.SeqGraph.{Edge, Graph, node_count, edges_from, edges_into, in_degree, out_degree, is_ref_source, remap_edge, compact_vertices}
use Rattle.defs.specs.SeqGraph.{keeps, remove_vertices_by_id}
use Rattle.defs.specs.Cleanup.{singleton_orphans, remove_orphans, remove_singleton_orphan_vertices}
use Rattle.defs.specs.Strings.{HasEdge}
use Rattle.laws.proofs.Walks.{by_test}
use Rattle.laws.proofs.ListLaws.{clash, and_split, and-true, mem-keep_if, of-keep_if, rank-yes, keep_if-yes, or_cases}
use Rattle.laws.proofs.Nets.{Bounded, place_of, link-restrict}
use Rattle.laws.proofs.Edges.{elem_of-true, elem_of-mem, keeps-not, keeps-other, nonempty, some_in, of-edges_from, in-edges_from, in-edges_into}
use Rattle.laws.proofs.Counts.{keep_at-all}
use Rattle.laws.proofs.Cycles.{any_of-true, mem-up_from, below-up_from}
use Rattle.laws.proofs.Whole.{by_list}
use Rattle.laws.proofs.Cleaned.{orphans-nil, orphans-cons}
use Rattle.tabs.proofs.Tabs.{set_more}
use Rattle.store.specs.Store.{graph_in, EndsBelow}
use Rattle.compact.specs.Compact.{unmarked, Compacted}
use Rattle.compact.specs.declared.Counts.{Counts}
use Rattle.compact.proofs.CompactLaws.{restrict-same, order-in, ends-mem}
use Rattle.index.specs.Index.{edge_end, incident_edges}
use Rattle.index.proofs.IndexLaws.{in-degree-is, out-degree-is}
use Rattle.refs.specs.Refs.{RefSource}
use Rattle.memory.specs.Memory.{graph_of}
use Rattle.memory.specs.declared.Held.{Held}
use Rattle.orphans.specs.Orphans.{is_orphan, Orphan, OrphansMarked, Reduced}

-- ---- the test

second-no : (a : Bool) {b : Bool} (c : Bool) → b ≡ false → false ≡ a && (b && c)
second-no true c q = rw q
second-no false c q = refl

module _ (m n : ℕ) (es : List ℕ) (v : ℕ) where
  pub orphan-entered : {d : ℕ} → d ≡ length (incident_edges (edge_end 1 es) m v) → (d ≡ 0 → ⊥) → Orphan m n es v false
  unfolding is_orphan
  orphan-entered q ne = record { is = at }
    where
      at : (k : ℕ) (vs p : List ℕ) → false ≡ is_orphan (graph_in k n m es vs p) v
      at k vs p = rw (ne_eqb (in_degree (graph_in k n m es vs p) v) 0 (λ z. ne (q ∙ sym (in-degree-is k n m es vs p v) ∙ z)))

  pub orphan-left : {d : ℕ} → d ≡ length (incident_edges (edge_end 0 es) m v) → (d ≡ 0 → ⊥) → Orphan m n es v false
  unfolding is_orphan
  orphan-left q ne = record { is = at }
    where
      at : (k : ℕ) (vs p : List ℕ) → false ≡ is_orphan (graph_in k n m es vs p) v
      at k vs p = second-no (eqb (in_degree (graph_in k n m es vs p) v) 0) (not (is_ref_source (graph_in k n m es vs p) v))
          (ne_eqb (out_degree (graph_in k n m es vs p) v) 0 (λ z. ne (q ∙ sym (out-degree-is k n m es vs p v) ∙ z)))

  pub orphan-by-source : {c d : ℕ} {r : Bool} → c ≡ length (incident_edges (edge_end 1 es) m v) → c ≡ 0
      → d ≡ length (incident_edges (edge_end 0 es) m v) → d ≡ 0 → RefSource m n es v r → Orphan m n es v (not r)
  unfolding is_orphan
  orphan-by-source {r = r} a x b y S = record { is = at }
    where
      at : (k : ℕ) (vs p : List ℕ) → not r ≡ is_orphan (graph_in k n m es vs p) v
      at k vs p = rw (
        eq-eqb (in_degree (graph_in k n m es vs p) v) 0 (in-degree-is k n m es vs p v ∙ sym a ∙ x),
        eq-eqb (out_degree (graph_in k n m es vs p) v) 0 (out-degree-is k n m es vs p v ∙ sym b ∙ y),
        ← (S.is k vs p),
      ) refl

-- ---- the marks

pub record MarkingOrphans (m n : ℕ) (es mp₀ mp : List ℕ) (i : ℕ) : Type 0 where
  pub high : i ≤ n
  pub len : length mp ≡ length mp₀
  pub at : (v : ℕ) → v < i → Orphan m n es v (not (unmarked mp v))

pub orphan-as : {m n : ℕ} {es : List ℕ} {v : ℕ} {r b : Bool} → r ≡ b → Orphan m n es v r → Orphan m n es v b
orphan-as q O = rw q at O

byte-marks : (r : Bool) → r ≡ not (eqb (bool_byte r) 0)
byte-marks true = refl
byte-marks false = refl

not-swap : (a : Bool) {b : Bool} → not a ≡ b → a ≡ not b
not-swap true q = rw (← q)
not-swap false q = rw (← q)

module _ {m n : ℕ} {es mp₀ : List ℕ} where
  pub marking-start : MarkingOrphans m n es mp₀ mp₀ 0
  marking-start = record { high = omega arith; len = refl; at = λ v b. absurd (omega arith) }

  pub marking-more : {mp : List ℕ} {i : ℕ} {r : Bool} (x : ℕ) → MarkingOrphans m n es mp₀ mp i → i < n → n ≤ length mp₀ → Orphan m n es i r
      → x ≡ bool_byte r → MarkingOrphans m n es mp₀ (set mp i x) (i + 1)
  marking-more {mp} {i} {r} x M b room O q = record {
    high = omega arith;
    len = length-set mp i x ∙ M.len;
    at = set_more (λ v y. Orphan m n es v (not (eqb y 0))) mp i x (omega (arith, M.len)) M.at
        (orphan-as (byte-marks r ∙ ap (λ (y : ℕ). not (eqb y 0)) (sym q)) O);
  }

  pub marking-end : {mp : List ℕ} {i : ℕ} → MarkingOrphans m n es mp₀ mp i → n ≤ i → OrphansMarked m n es mp
  marking-end {mp} M l = record { at = λ k vs p v b. not-swap (unmarked mp v) ((M.at v (omega arith)).is k vs p) }

-- ---- one pass

module _ (g : Graph) where
  pub orphan-in : (v : ℕ) → Memᴰ v (singleton_orphans g) → (v < node_count g) × (is_orphan g v ≡ true)
  unfolding singleton_orphans is_orphan
  orphan-in v i = let k = of-keep_if _ (up_from 0 (node_count g)) i in (omega (arith, below-up_from 0 (node_count g) v k.0), k.1)

  in-orphans : (v : ℕ) → v < node_count g → is_orphan g v ≡ true → Memᴰ v (singleton_orphans g)
  unfolding singleton_orphans is_orphan
  in-orphans v b t = mem-keep_if _ (mem-up_from 0 (node_count g) v (omega arith) (omega arith)) t

  pub keeps-orphans : (v : ℕ) → v < node_count g → keeps (singleton_orphans g) v ≡ not (is_orphan g v)
  unfolding keeps
  keeps-orphans v b = ap not (by_test (is_orphan g v)
      (λ t. elem_of-mem v (singleton_orphans g) (in-orphans v b t) ∙ sym t)
      (λ t. by_test (elem_of v (singleton_orphans g)) (λ e. clash (orphan-in v (elem_of-true v (singleton_orphans g) e)).1 t) (λ e. e ∙ sym t)))

  -- an orphan has no edge
  no-out : (v w : ℕ) → is_orphan g v ≡ true → HasEdge g v w → ⊥
  unfolding is_orphan out_degree
  no-out v w t (e, i, p, q) = let s = and_split (eqb (in_degree g v) 0) _ t in
      let d = eqb-true (length (edges_from g v)) 0 (and_split (eqb (length (edges_from g v)) 0) _ s.1).0 in
      empty (edges_from g v) d (in-edges_from g v e i p)
    where
      empty : (l : List Edge) {x : Edge} → length l ≡ 0 → Memᴰ x l → ⊥
      empty [] z k = Memᴰ.not-nil k
      empty (y ∷ l) z k = omega arith

  no-in : (v w : ℕ) → is_orphan g v ≡ true → HasEdge g w v → ⊥
  unfolding is_orphan in_degree
  no-in v w t (e, i, p, q) = empty (edges_into g v) (eqb-true (length (edges_into g v)) 0 (and_split (eqb (length (edges_into g v)) 0) _ t).0)
      (in-edges_into g v e i q)
    where
      empty : (l : List Edge) {x : Edge} → length l ≡ 0 → Memᴰ x l → ⊥
      empty [] z k = Memᴰ.not-nil k
      empty (y ∷ l) z k = omega arith

  -- a vertex that is none has an edge, or is the only one
  by-edge : {X : Type 0} (v : ℕ) → is_orphan g v ≡ false → ((u : ℕ) → HasEdge g u v → X) → ((w : ℕ) → HasEdge g v w → X) → (node_count g ≡ 1 → X) → X
  unfolding is_orphan out_degree is_ref_source
  by-edge {X} v f ins outs one = by_test (eqb (in_degree g v) 0)
      (λ a. by_test (eqb (out_degree g v) 0)
      (λ b. by_test (is_ref_source g v) (λ c. only b c) (λ c. clash (yes-orphan a b c) f))
      (λ b. out (some (out_degree g v) (eqb-false (out_degree g v) 0 b))))
      (λ a. let r = some_in g v (some (in_degree g v) (eqb-false (in_degree g v) 0 a)) in ins r.0 r.1)
    where
      some : (d : ℕ) → (d ≡ 0 → ⊥) → 0 < d
      some d ne = elim (ℕ_discrete d 0) [ yes q ↦ absurd (ne q) | no z ↦ omega arith ]

      yes-orphan : eqb (in_degree g v) 0 ≡ true → eqb (out_degree g v) 0 ≡ true → is_ref_source g v ≡ false → is_orphan g v ≡ true
      yes-orphan a b c = and-true _ _ a (and-true _ _ b (ap not c))

      out : 0 < out_degree g v → X
      out l = let r = nonempty (edges_from g v) l in let k = of-edges_from g v r.0 r.1 in outs r.0.to (r.0, k.0, k.1, refl)

      only : eqb (out_degree g v) 0 ≡ true → is_ref_source g v ≡ true → X
      only b c = ⊎_elim
          (λ e. one (eqb-true (node_count g) 1 e))
          (λ e. let r = any_of-true (λ (x : Edge). x.is_ref) (edges_from g v) (and_split (not (any_of (λ (x : Edge). x.is_ref) (edges_into g v))) _ e).1 in
          let k = of-edges_from g v r.0 r.1 in outs r.0.to (r.0, k.0, k.1, refl))
          (or_cases (eqb (node_count g) 1) _ c)

  kept : (v : ℕ) → v < node_count g → is_orphan g v ≡ false → keeps (singleton_orphans g) v ≡ true
  kept v b f = keeps-orphans v b ∙ ap not f

  not-orphan : (v : ℕ) → v < node_count g → keeps (singleton_orphans g) v ≡ true → is_orphan g v ≡ false
  not-orphan v b t = by_test (is_orphan g v) (λ o. absurd (keeps-not (singleton_orphans g) v t (in-orphans v b o))) (λ o. o)

module _ (g : Graph) (bounded : Bounded g) where
  abbrev left : Graph
  left = remove_vertices_by_id (singleton_orphans g) g

  none-at : (o : ℕ) → Memᴰ o (singleton_orphans g) → (v : ℕ) → Memᴰ v (singleton_orphans left) → ⊥
  unfolding remove_vertices_by_id
  none-at o first v i =
      let p = keeps (singleton_orphans g) in
      let x = orphan-in (compact_vertices p g) v i in
      let z = place_of p g bounded v x.0 in
      let u = z.0 in
      by-edge g u (not-orphan g u z.1.0 z.1.1)
      (λ w e. no-in (compact_vertices p g) v (rank p w) x.1 (rw z.1.2 at (link-restrict p g w u e (kept g w (from_in w u e) (has-out w u e)) z.1.1)))
      (λ w e. no-out (compact_vertices p g) v (rank p w) x.1 (rw z.1.2 at (link-restrict p g u w e z.1.1 (kept g w (to_in u w e) (has_in u w e)))))
      (λ q. let y = orphan-in g o first in
      keeps-not (singleton_orphans g) u z.1.1 (let s : o ≡ u = omega (arith, y.0, z.1.0) in rw s at first))
    where
      from_in : (w u : ℕ) → HasEdge g w u → w < node_count g
      from_in w u (e, j, a, b) = omega (arith, a, (bounded e j).0)

      to_in : (u w : ℕ) → HasEdge g u w → w < node_count g
      to_in u w (e, j, a, b) = omega (arith, b, (bounded e j).1)

      has-out : (w u : ℕ) → HasEdge g w u → is_orphan g w ≡ false
      has-out w u e = by_test (is_orphan g w) (λ t. absurd (no-out g w u t e)) (λ t. t)

      has_in : (u w : ℕ) → HasEdge g u w → is_orphan g w ≡ false
      has_in u w e = by_test (is_orphan g w) (λ t. absurd (no-in g w u t e)) (λ t. t)

  none_left : (o : ℕ) → Memᴰ o (singleton_orphans g) → singleton_orphans left ≡ []
  none_left o first = by_list (singleton_orphans left) (λ t. t) (λ v vs t. absurd (none-at o first v (rw t (Memᴰ.head refl))))

-- nothing goes
rank-all : (n : ℕ) → rank (keeps []) n ≡ n
unfolding rank
rank-all zero = refl
rank-all (suc n) = rank-yes (keeps []) n (keeps-other [] n Memᴰ.not-nil) ∙ ap suc (rank-all n)

renumber-all : (e : Edge) → remap_edge (keeps []) e ≡ e
unfolding remap_edge
renumber-all e = λ i. record { from = rank-all e.from i; to = rank-all e.to i; support = e.support; is_ref = e.is_ref; capped = e.capped }

edges-all : (l : List Edge) → map (remap_edge (keeps [])) (keep_if (λ (e : Edge). keeps [] e.from && keeps [] e.to) l) ≡ l
unfolding keep_if
edges-all [] = refl
edges-all (e ∷ l) =
    ap (map (remap_edge (keeps []))) (keep_if-yes (λ (e : Edge). keeps [] e.from && keeps [] e.to) e l
    (and-true _ _ (keeps-other [] e.from Memᴰ.not-nil) (keeps-other [] e.to Memᴰ.not-nil)))
    ∙ (λ i. renumber-all e i ∷ edges-all l i)

remove-none : (g : Graph) → remove_vertices_by_id [] g ≡ g
unfolding remove_vertices_by_id compact_vertices
remove-none g = λ i. record { k = g.k; verts = keep_at-all (keeps []) g.verts 0 (λ v. keeps-other [] v Memᴰ.not-nil) i; edges = edges-all g.edges i }

pub orphans-once : (g : Graph) → Bounded g → remove_singleton_orphan_vertices g ≡ remove_vertices_by_id (singleton_orphans g) g
unfolding remove_singleton_orphan_vertices
orphans-once g b = by_list (singleton_orphans g)
    (λ t. orphans-nil (node_count g) g t ∙ sym (remove-none g) ∙ ap (λ l. remove_vertices_by_id l g) (sym t))
    (λ v vs t. orphans-cons (node_count g) g v vs t ∙ ap (λ l. remove_orphans (node_count g) (remove_vertices_by_id l g)) (sym t)
    ∙ still (node_count g) v (orphan-in g v (rw t (Memᴰ.head refl))).0 (rw t (Memᴰ.head refl)))
  where
    still : (fuel v : ℕ) → v < fuel → Memᴰ v (singleton_orphans g) → remove_orphans fuel (remove_vertices_by_id (singleton_orphans g) g)
        ≡ remove_vertices_by_id (singleton_orphans g) g
    still zero v l i = absurd (omega arith)
    still (suc fuel) v l i = orphans-nil fuel (remove_vertices_by_id (singleton_orphans g) g) (none_left g b v i)

-- ---- what is left

pub reduced-closed : {h : Held} {es vs mp es' vs' mp' : List ℕ} {c : Counts} {r : Held} → Compacted h.n h.m es vs mp c es' vs' mp' → r
    ≡ record { k = h.k; n = c.n; m = c.m; used = h.used }
    → Reduced (λ (g : Graph). compact_vertices (unmarked mp) g) h es vs r es' vs'
reduced-closed {h} {es} {vs} {mp} {es'} {vs'} {c = c} C q = rw q record {
  is = λ p. C.is h.k.0 p;
  most-n = C.most-n;
  most-m = C.most-m;
  ends = C.ends;
  within = C.within;
  used-is = refl;
}

-- the same, by a test that agrees
pub reduced-as : {f f' : Graph → Graph} {h : Held} {es vs : List ℕ} {r : Held} {es' vs' : List ℕ}
    → ((p : List ℕ) → f (graph_of h es vs p) ≡ f' (graph_of h es vs p))
    → Reduced f h es vs r es' vs' → Reduced f' h es vs r es' vs'
reduced-as same R = record { is = λ p. R.is p ∙ same p; most-n = R.most-n; most-m = R.most-m; ends = R.ends; within = R.within; used-is = R.used-is }

pub bounded-in : {n m : ℕ} {es : List ℕ} → EndsBelow n m es → (k : ℕ) (vs p : List ℕ) → Bounded (graph_in k n m es vs p)
bounded-in {n} {m} {es} E k vs p e i = rw (order-in k n m es vs p) (ends-mem E e i)

pub marked-orphans : (h : Held) {es mp : List ℕ} (vs : List ℕ) → EndsBelow h.n h.m es → OrphansMarked h.m h.n es mp → (p : List ℕ)
    → compact_vertices (unmarked mp) (graph_of h es vs p) ≡ remove_singleton_orphan_vertices (graph_of h es vs p)
unfolding remove_vertices_by_id
marked-orphans h {es} {mp} vs E M p =
    let g = graph_of h es vs p in
    let b = bounded-in {es = es} E h.k.0 vs p in
    restrict-same (unmarked mp) (keeps (singleton_orphans g)) g
    (λ v l. M.at h.k.0 vs p v (omega (arith, l, order-in h.k.0 h.n h.m es vs p)) ∙ sym (keeps-orphans g v l)) b
    ∙ sym (orphans-once g b)
