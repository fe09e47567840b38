-- A merge keeps the strings.
-- Assumes nothing.
use Prim.Native.Nat.{ℕ, zero, suc, ◌+◌, ◌≤◌, ◌<◌}
use native.Mathlib.Omega.{arith}
use native.Mathlib.Nat.{zero-add, add-zero}
use mathlib.Core.Path.{◌≡◌, refl, sym, ap, ◌∙◌, subst}
use mathlib.Core.Logic.{◌⊎◌, inl, inr, ⊎_elim, ◌↔◌}
use mathlib.Core.Bool.{Bool, true, false, cond, ◌&&◌, true≢false}
use mathlib.Core.Option.{some}
use mathlib.Core.List.{List, [], ◌∷◌, ◌++◌, map, append_assoc, append-nil, Memᴰ}
use lib.Dec.{eqb, ltb}
use lib.ListN.{length, get_or}
use borrow.Author.Tests.{eqb-true, ltb-true, eq-eqb, ne_eqb}
use Rattle.defs.specs.Lists.{head_or, concat, same_list, all_of}
use Rattle.defs.specs.SeqGraph.{Edge, Graph, node_count, vertex_sequence, edges_into, edges_from, incoming_nodes, out_degree, in_degree, keeps, new_edge, edge_data}
use Rattle.defs.specs.SeqGraph.{Change, with_additions, apply_change, remove_vertices_by_id, compact_vertices}
use Rattle.defs.specs.Rewrites.{merges_suffices, is_merge, try_merge_common_suffices, merge_change, redirected_to, redirected_from}
use Rattle.defs.specs.Strings.{HasEdge, Spells}
use Rattle.laws.proofs.Sound.{Sound, Keeps}
use Rattle.laws.proofs.Walks.{Net, Pt, start, at, stop, Go, text, IsSource, IsSink, Steps, stay, step, single, then, cast, Reads}
use Rattle.laws.proofs.Walks.{Tour, hit, pass, Replaces, kept, reads, by_test}
use Rattle.laws.proofs.ListLaws.{clash, given-some, and_split, by_order, same_list-eq}
use Rattle.laws.proofs.Nets.{Ranks, ranks-restrict, closed, net_of, part_of, Bounded, reads-restrict, of-reads-restrict, spells-reads}
use Rattle.laws.proofs.Nets.{reads-spells, bounded-restrict}
use Rattle.laws.proofs.Edges.{Linked, raise_all-keeps, raise_all-adds, of-raise_all, keeps-not, not-keeps, keeps-other, all_of-mem}
use Rattle.laws.proofs.Edges.{mem-ins, of-mem-ins, of-edges_into, of-edges_from, in-edges_into, in-edges_from, only_out_lem, some_in}
use Rattle.laws.proofs.Edges.{nonempty, order-grown, seq-grown-old, seq-grown-new}

pub mem-flat : {A B : Type 0} (f : B → List A) (l : List B) {x : A} {b : B} → Memᴰ b l → Memᴰ x (f b) → Memᴰ x (concat (map f l))
unfolding concat
mem-flat f [] m n = absurd (mathlib.Core.List.Memᴰ.not-nil m)
mem-flat f (c ∷ cs) {x} {b} m n =
    ⊎_elim (λ (e : b ≡ c). mathlib.Core.List.Memᴰ.append_left (concat (map f cs)) (rw e at n))
    (λ k. mathlib.Core.List.Memᴰ.append_right (f c) (mem-flat f cs k n)) (mathlib.Core.List.Memᴰ.cases_cons m)

pub of-mem-flat : {A B : Type 0} (f : B → List A) (l : List B) {x : A} → Memᴰ x (concat (map f l)) → (b : B) × Memᴰ b l × Memᴰ x (f b)
unfolding concat
of-mem-flat f [] m = absurd (mathlib.Core.List.Memᴰ.not-nil m)
of-mem-flat {A} {B} f (c ∷ cs) {x} m =
    ⊎_elim {C = (b : B) × Memᴰ b (c ∷ cs) × Memᴰ x (f b)} (λ k. (c, mathlib.Core.List.Memᴰ.head refl, k)) (λ k. let r = of-mem-flat f cs k in
    (r.0, mathlib.Core.List.Memᴰ.tail r.1, r.2)) (mathlib.Core.List.Memᴰ.append_cases (f c) m)

module _ (g : Graph) (bottom : ℕ) (bounded : Bounded g) (r : ℕ → ℕ) (ranks : Ranks g r) (inside : bottom < node_count g) (ok :
    is_merge g (incoming_nodes g bottom) ≡ true) where
  abbrev pub prevs : List ℕ
  prevs = incoming_nodes g bottom

  abbrev pub new : ℕ
  new = node_count g

  abbrev pub c : Change
  c = merge_change g bottom prevs

  abbrev pub G : Graph
  G = with_additions c g

  abbrev pub keep : ℕ → Bool
  keep = keeps (bottom ∷ prevs)

  -- the vertices that both have
  abbrev pub common : ℕ → Bool
  common = keeps (new ∷ bottom ∷ prevs)

  pub ok-parts : (0 < length prevs) × ((u : ℕ) → Memᴰ u prevs → (vertex_sequence g u ≡ vertex_sequence g (head_or 0 prevs))
      × (out_degree g u ≡ 1) × (0 < in_degree g u))
  unfolding is_merge
  ok-parts =
      let h = and_split _ _ ok in (
        ltb-true _ _ h.0,
        λ u m.
            let k = and_split _ _ (all_of-mem (λ p. same_list (vertex_sequence g p) (vertex_sequence g (head_or 0 prevs))
            && (eqb (out_degree g p) 1 && ltb 0 (in_degree g p))) prevs h.1 m) in
            let j = and_split _ _ k.1 in
            (same_list-eq _ _ k.0, eqb-true _ _ j.0, ltb-true _ _ j.1),
      )

  -- a predecessor's only edge leads to the bottom
  pub prev-out : (u w : ℕ) → Memᴰ u prevs → HasEdge g u w → w ≡ bottom
  prev-out u w m h = only_out_lem g u w bottom (ok-parts.1 u m).1 h (of-mem-ins g u bottom m)

  pub edge-old : (u v : ℕ) → HasEdge g u v → (u < new) × (v < new)
  edge-old u v (e, m, p, q) = rw (← p, ← q) (bounded e m)

  -- the edges of the grown graph
  pub of-G : {X : Type 0} (u v : ℕ) → HasEdge G u v → (HasEdge g u v → X) → ((b : ℕ) → Memᴰ b prevs → HasEdge g u b → v ≡ new → X)
      → (u ≡ new → HasEdge g bottom v → X) → X
  unfolding merge_change with_additions redirected_to redirected_from new_edge edge_data
  of-G {X} u v h old to_mid out =
      of-raise_all c.edges g.edges u v h old λ (e, m, p, q).
      ⊎_elim
      (λ k. let a = mathlib.Core.List.Memᴰ.of_map (redirected_to new) _ k in
      let b = of-mem-flat (edges_into g) prevs a.1 in
      let d = of-edges_into g b.0 a.0 b.2 in
      to_mid b.0 b.1 (a.0, d.0, ap (λ (e : Edge). e.from) a.2 ∙ p, d.1) (sym q ∙ sym (ap (λ (e : Edge). e.to) a.2)))
      (λ k. let a = mathlib.Core.List.Memᴰ.of_map (redirected_from new) _ k in
      let d = of-edges_from g bottom a.0 a.1 in
      out (sym p ∙ sym (ap (λ (e : Edge). e.from) a.2)) (a.0, d.0, d.1, ap (λ (e : Edge). e.to) a.2 ∙ q))
      (mathlib.Core.List.Memᴰ.append_cases _ m)

  pub G-old : (u v : ℕ) → HasEdge g u v → HasEdge G u v
  unfolding with_additions
  G-old u v h = raise_all-keeps c.edges g.edges u v h

  pub G-into : (u b : ℕ) → Memᴰ b prevs → HasEdge g u b → HasEdge G u new
  unfolding merge_change with_additions redirected_to new_edge
  G-into u b m (e, k, p, q) =
      raise_all-adds c.edges g.edges u new
      (redirected_to new e, mathlib.Core.List.Memᴰ.append_left _ (mathlib.Core.List.Memᴰ.map (redirected_to new) (mem-flat (edges_into g) prevs m (in-edges_into g b e k q))), p, refl)

  pub G-out : (v : ℕ) → HasEdge g bottom v → HasEdge G new v
  unfolding merge_change with_additions redirected_from new_edge
  G-out v (e, k, p, q) =
      raise_all-adds c.edges g.edges new v (
        redirected_from new e,
        mathlib.Core.List.Memᴰ.append_right (map (redirected_to new) (concat (map (edges_into g) prevs)))
            (mathlib.Core.List.Memᴰ.map (redirected_from new) (in-edges_from g bottom e k p)),
        refl,
        q,
      )

  -- vertices
  pub not-bottom : Memᴰ bottom prevs → ⊥
  not-bottom m = omega (arith, ranks bottom bottom (of-mem-ins g bottom bottom m))

  pub prev-in : (u : ℕ) → Memᴰ u prevs → (x : ℕ) × HasEdge g x u
  prev-in u m = some_in g u (ok-parts.1 u m).2

  -- what leads into a predecessor, and what the bottom leads to, stays
  pub into-kept : (u b : ℕ) → Memᴰ b prevs → HasEdge g u b → keep u ≡ true
  into-kept u b m h = keeps-other _ u λ k. ⊎_elim
      (λ (e : u ≡ bottom). omega (arith, ranks u b h, ranks b bottom (of-mem-ins g b bottom m), ap r e))
      (λ n. let e = prev-out u b n h in not-bottom (rw e at m))
      (mathlib.Core.List.Memᴰ.cases_cons k)

  pub out-kept : (v : ℕ) → HasEdge g bottom v → keep v ≡ true
  out-kept v h = keeps-other _ v λ k. ⊎_elim
      (λ (e : v ≡ bottom). omega (arith, ranks bottom v h, ap r e))
      (λ n. omega (arith, ranks bottom v h, ranks v bottom (of-mem-ins g v bottom n)))
      (mathlib.Core.List.Memᴰ.cases_cons k)

  pub new-kept : keep new ≡ true
  new-kept = keeps-other _ new λ k. ⊎_elim
      (λ (e : new ≡ bottom). omega arith)
      (λ n. let h = edge-old new bottom (of-mem-ins g new bottom n) in omega arith)
      (mathlib.Core.List.Memᴰ.cases_cons k)

  pub common-keep : (v : ℕ) → common v ≡ true → keep v ≡ true
  common-keep v t = keeps-other _ v λ m. keeps-not _ v t (mathlib.Core.List.Memᴰ.tail m)

  pub common-old : (v : ℕ) → common v ≡ true → v < node_count G → v < new
  unfolding merge_change
  common-old v t h = by_order new v (λ l. let e : v ≡ new = omega (arith, h, order-grown g c) in absurd (keeps-not _ v t (mathlib.Core.List.Memᴰ.head e))) (λ l. l)

  pub old-G : (v : ℕ) → v < new → v < node_count G
  old-G v h = omega (arith, order-grown g c)

  pub new-G : new < node_count G
  unfolding merge_change
  new-G = omega (arith, order-grown g c)

  pub seq-new : vertex_sequence G new ≡ vertex_sequence g (head_or 0 prevs) ++ vertex_sequence g bottom
  unfolding merge_change
  seq-new = rw add-zero at (seq-grown-new g c 0)

  abbrev pub N : Net
  N = net_of g

  abbrev pub U : Net
  U = part_of keep G

  -- the three kinds of vertex that are not common
  pub cases : {X : Type 0} (v : ℕ) → common v ≡ false → (v ≡ new → X) → (v ≡ bottom → X) → (Memᴰ v prevs → X) → X
  cases v t a b d = ⊎_elim a (λ m. ⊎_elim b d (mathlib.Core.List.Memᴰ.cases_cons m)) (mathlib.Core.List.Memᴰ.cases_cons (not-keeps _ v t))

  pub is-common : (v : ℕ) → keep v ≡ true → v < new → common v ≡ true
  is-common v t h = keeps-other _ v λ m. ⊎_elim (λ (e : v ≡ new). omega arith) (keeps-not _ v t) (mathlib.Core.List.Memᴰ.cases_cons m)

  -- old steps in the new net
  pub edge-U : (u v : ℕ) → HasEdge g u v → common u ≡ true → common v ≡ true → U.Ed u v
  edge-U u v h s t = (G-old u v h, common-keep u s, common-keep v t)

  pub source-U : (v : ℕ) → IsSource N v → common v ≡ true → IsSource U v
  source-U v (h, k) t = ((old-G v h, common-keep v t), λ u e. of-G u v e.0 (k u) (λ b m l i. keeps-not _ v t (mathlib.Core.List.Memᴰ.head i)) (λ i l. k bottom l))

  pub sink-U : (u : ℕ) → IsSink N u → common u ≡ true → IsSink U u
  sink-U u (h, k) t = ((old-G u h, common-keep u t), λ v e. of-G u v e.0 (k v) (λ b m l i. k b l) (λ i l. keeps-not _ u t (mathlib.Core.List.Memᴰ.head i)))

  pub old-text : (v : ℕ) → v < new → N.lab v ≡ U.lab v
  old-text v h = sym (seq-grown-old g c v h)

  pub step_in : (u x : ℕ) → common u ≡ true → Memᴰ x prevs → HasEdge g u x → U.Ed u new
  step_in u x t m e = (G-into u x m e, common-keep u t, new-kept)

  pub seq-prev : (x : ℕ) → Memᴰ x prevs → vertex_sequence G new ≡ vertex_sequence g x ++ vertex_sequence g bottom
  seq-prev x m = rw (seq-new, (ok-parts.1 x m).0)

  pub out-common : (v : ℕ) → HasEdge g bottom v → common v ≡ true
  out-common v h = is-common v (out-kept v h) (edge-old bottom v h).1

  -- from a predecessor that u leads to, over the bottom
  pub over-bottom : (u x : ℕ) (q : Pt) (s : List ℕ) → common u ≡ true → Memᴰ x prevs → HasEdge g u x → Tour N common (at bottom) q s
      → Steps U (at u) q (vertex_sequence g x ++ (vertex_sequence g bottom ++ s))
  over-bottom u x q s t m e (hit {q = start} h k) = absurd h
  over-bottom u x q s t m e (hit {q = at v} h k) =
      cast (rw (old-text v (edge-old bottom v h).1, seq-prev x m, append-nil, append_assoc))
      (step {q = at new} (step_in u x t m e) (step {q = at v} (G-out v h, new-kept, common-keep v k) stay))
  over-bottom u x q s t m e (hit {q = stop} h k) =
      cast (rw (seq-prev x m, append-nil, append-nil))
      (step {q = at new} (step_in u x t m e) (step {q = stop} (
        (new-G, new-kept),
        λ w l.
            of-G new w l.0 (λ i. omega (arith, edge-old new w i)) (λ b n i j. omega (arith, edge-old new b i)) (λ i j. h.1 w j),
      ) stay))
  over-bottom u x q s t m e (pass {q = start} h k w) = absurd h
  over-bottom u x q s t m e (pass {q = at v} h k w) = clash (out-common v h) k
  over-bottom u x q s t m e (pass {q = stop} h k w) = absurd (true≢false k)

  pub over-prev : (u x : ℕ) (q : Pt) (s : List ℕ) → common u ≡ true → Memᴰ x prevs → HasEdge g u x → Tour N common (at x) q s
      → Steps U (at u) q (vertex_sequence g x ++ s)
  over-prev u x q s t m e (hit {q = start} h k) = absurd h
  over-prev u x q s t m e (hit {q = at v} h k) = absurd (keeps-not _ v k (mathlib.Core.List.Memᴰ.tail (mathlib.Core.List.Memᴰ.head (prev-out x v m h))))
  over-prev u x q s t m e (hit {q = stop} h k) = absurd (h.1 bottom (of-mem-ins g x bottom m))
  over-prev u x q s t m e (pass {q = start} h k w) = absurd h
  over-prev u x q s t m e (pass {q = at v} {s = s₁} h k w) =
      let i = prev-out x v m h in
      rw i (over-bottom u x q s₁ t m e (rw i at w))
  over-prev u x q s t m e (pass {q = stop} h k w) = absurd (true≢false k)

  pub forth : Replaces N U common
  forth start q s t (hit {q = start} h k) = absurd h
  forth start q s t (hit {q = at v} h k) = cast (sym (old-text v h.0)) (single (source-U v h k))
  forth start q s t (hit {q = stop} h k) = absurd h
  forth start q s t (pass {q = start} h k w) = absurd h
  forth start q s t (pass {q = at v} h k w) =
      absurd (cases v k
      (λ i. omega (arith, h.0))
      (λ i. let r = nonempty prevs ok-parts.0 in h.1 r.0 (rw i (of-mem-ins g r.0 bottom r.1)))
      (λ m. let r = prev-in v m in h.1 r.0 r.1))
  forth start q s t (pass {q = stop} h k w) = absurd h
  forth (at u) q s t (hit {q = start} h k) = absurd h
  forth (at u) q s t (hit {q = at v} h k) = cast (sym (old-text v (edge-old u v h).1)) (single (edge-U u v h t k))
  forth (at u) q s t (hit {q = stop} h k) = single (sink-U u h t)
  forth (at u) q s t (pass {q = start} h k w) = absurd h
  forth (at u) q s t (pass {q = at v} {s = s₁} h k w) =
      cases v k
      (λ i. absurd (omega (arith, edge-old u v h)))
      (λ i. absurd (keeps-not _ u t (mathlib.Core.List.Memᴰ.tail (mathlib.Core.List.Memᴰ.tail (mem-ins g u bottom (rw i at h))))))
      (λ m. over-prev u v q s₁ t m h w)
  forth (at u) q s t (pass {q = stop} h k w) = absurd (true≢false k)
  forth stop q s t (hit h k) = absurd h
  forth stop q s t (pass h k w) = absurd h

  -- the new steps in the old net
  pub no-new : (v : ℕ) → common v ≡ true → v ≡ new → ⊥
  no-new v t i = keeps-not _ v t (mathlib.Core.List.Memᴰ.head i)

  pub edge-N : (u v : ℕ) → U.Ed u v → common u ≡ true → common v ≡ true → HasEdge g u v
  edge-N u v h s t = of-G u v h.0 (λ l. l) (λ b m l i. absurd (no-new v t i)) (λ i l. absurd (no-new u s i))

  pub source-N : (v : ℕ) → IsSource U v → common v ≡ true → IsSource N v
  source-N v (h, k) t = (
    common-old v t h.0,
    λ x l. by_test (common x)
        (λ c. k x (edge-U x v l c t))
        (λ c. cases x c
        (λ i. omega (arith, edge-old x v l))
        (λ i. k new (G-out v (rw i at l), new-kept, h.1))
        (λ m. keeps-not _ v t (mathlib.Core.List.Memᴰ.tail (mathlib.Core.List.Memᴰ.head (prev-out x v m l))))),
  )

  pub sink-N : (u : ℕ) → IsSink U u → common u ≡ true → IsSink N u
  sink-N u (h, k) t = (
    common-old u t h.0,
    λ w l. by_test (common w)
        (λ c. k w (edge-U u w l t c))
        (λ c. cases w c
        (λ i. omega (arith, edge-old u w l))
        (λ i. keeps-not _ u t (mathlib.Core.List.Memᴰ.tail (mathlib.Core.List.Memᴰ.tail (mem-ins g u bottom (rw i at l)))))
        (λ m. k new (G-into u w m l, h.1, new-kept))),
  )

  pub from-new : {X : Type 0} (v : ℕ) → U.Ed new v → (HasEdge g bottom v → X) → X
  from-new v h f = of-G new v h.0 (λ i. absurd (omega (arith, edge-old new v i))) (λ b n i j. absurd (omega (arith, edge-old new b i))) (λ i j. f j)

  pub over-new : (u b : ℕ) (q : Pt) (s : List ℕ) → Memᴰ b prevs → HasEdge g u b → Tour U common (at new) q s
      → Steps N (at u) q (vertex_sequence g b ++ (vertex_sequence g bottom ++ s))
  over-new u b q s m e (hit {q = start} h k) = absurd h
  over-new u b q s m e (hit {q = at v} h k) =
      from-new v h λ l. rw (← old-text v (edge-old bottom v l).1) (step {q = at b} e (step {q = at bottom} (of-mem-ins g b bottom m) (single {q = at v} l)))
  over-new u b q s m e (hit {q = stop} h k) =
      step {q = at b} e (step {q = at bottom} (of-mem-ins g b bottom m) (single {q = stop} (inside, λ w l. h.1 w (G-out w l, new-kept, out-kept w l))))
  over-new u b q s m e (pass {q = start} h k w) = absurd h
  over-new u b q s m e (pass {q = at v} h k w) = from-new v h λ l. clash (out-common v l) k
  over-new u b q s m e (pass {q = stop} h k w) = absurd (true≢false k)

  -- a vertex of the new net that is not common is the new one
  pub is-new : {X : Type 0} (v : ℕ) → keep v ≡ true → common v ≡ false → (v ≡ new → X) → X
  is-new v t k f = cases v k f (λ i. absurd (keeps-not _ v t (mathlib.Core.List.Memᴰ.head i))) (λ m. absurd (keeps-not _ v t (mathlib.Core.List.Memᴰ.tail m)))

  pub back : Replaces U N common
  back start q s t (hit {q = start} h k) = absurd h
  back start q s t (hit {q = at v} h k) = cast (old-text v (common-old v k h.0.0)) (single (source-N v h k))
  back start q s t (hit {q = stop} h k) = absurd h
  back start q s t (pass {q = start} h k w) = absurd h
  back start q s t (pass {q = at v} h k w) =
      is-new v h.0.1 k λ i.
      let a = nonempty prevs ok-parts.0 in
      let b = prev-in a.0 a.1 in
      absurd (h.1 b.0 (rw i (G-into b.0 a.0 a.1 b.1, into-kept b.0 a.0 a.1 b.1, new-kept)))
  back start q s t (pass {q = stop} h k w) = absurd h
  back (at u) q s t (hit {q = start} h k) = absurd h
  back (at u) q s t (hit {q = at v} h k) = let l = edge-N u v h t k in cast (old-text v (edge-old u v l).1) (single l)
  back (at u) q s t (hit {q = stop} h k) = single (sink-N u h t)
  back (at u) q s t (pass {q = start} h k w) = absurd h
  back (at u) q s t (pass {q = at v} {s = s₁} h k w) =
      is-new v h.2 k λ i. of-G u v h.0
      (λ l. absurd (omega (arith, edge-old u v l)))
      (λ b m l _. cast (ap (λ x. x ++ s₁) (sym (seq-prev b m) ∙ ap (vertex_sequence G) (sym i))) (rw append_assoc (over-new u b q s₁ m l (rw i at w))))
      (λ j l. absurd (no-new u t j))
  back (at u) q s t (pass {q = stop} h k w) = absurd (true≢false k)
  back stop q s t (hit h k) = absurd h
  back stop q s t (pass h k w) = absurd h

  pub bounded_g : Bounded G
  unfolding with_additions
  bounded_g e m = of-G e.from e.to (e, m, refl, refl)
      (λ l. let b = edge-old _ _ l in (old-G _ b.0, old-G _ b.1))
      (λ b n l i. (old-G _ (edge-old _ _ l).0, rw i new-G))
      (λ i l. (rw i new-G, old-G _ (edge-old _ _ l).1))

  pub merge-keeps-strings : {s : List ℕ} → Reads (net_of g) s → Reads (net_of (apply_change g c)) s
  unfolding apply_change remove_vertices_by_id merge_change
  merge-keeps-strings w = reads-restrict keep G bounded_g (reads N U common forth w)

  pub merge-adds-no-string : {s : List ℕ} → Reads (net_of (apply_change g c)) s → Reads (net_of g) s
  unfolding apply_change remove_vertices_by_id merge_change
  merge-adds-no-string w = reads U N common back (of-reads-restrict keep G bounded_g w)

  pub bounded-merge : Bounded (apply_change g c)
  unfolding apply_change remove_vertices_by_id merge_change
  bounded-merge = bounded-restrict keep G bounded_g

  pub merge-spells : {s : List ℕ} → Spells g s ↔ Spells (apply_change g c) s
  merge-spells = (
    λ w. reads-spells (apply_change g c) bounded-merge (merge-keeps-strings (spells-reads g w)),
    λ w.
        reads-spells g bounded (merge-adds-no-string (spells-reads (apply_change g c) w)),
  )

  pub rank_g : ℕ → ℕ
  rank_g v = cond (eqb v new) (r bottom) (r v)

  pub rank-old : (v : ℕ) → v < new → rank_g v ≡ r v
  unfolding rank_g
  rank-old v h = rw (ne_eqb v new (λ e. omega arith))

  pub rank-new : rank_g new ≡ r bottom
  unfolding rank_g
  rank-new = rw (eq-eqb new new refl)

  pub ranks_g : Ranks G rank_g
  ranks_g u v h = of-G u v h
      (λ l. let b = edge-old u v l in rw (rank-old u b.0, rank-old v b.1) (ranks u v l))
      (λ b m l i. rw (i, rank-new, rank-old u (edge-old u b l).0) (omega (arith, ranks u b l, ranks b bottom (of-mem-ins g b bottom m))))
      (λ i l. rw (i, rank-new, rank-old v (edge-old bottom v l).1) (ranks bottom v l))

  pub ranks-merge : (r' : ℕ → ℕ) × Ranks (apply_change g c) r'
  unfolding apply_change remove_vertices_by_id merge_change
  ranks-merge = (closed keep G bounded_g rank_g, ranks-restrict keep G bounded_g rank_g ranks_g)

  pub merge_keeps : Keeps g (apply_change g c)
  merge_keeps = record { sound = record { bounded = bounded-merge; rank = ranks-merge.0; ranks = ranks-merge.1 }; spells = λ s. merge-spells }

pub merge-keeps' : (g g' : Graph) (bottom : ℕ) → Sound g → try_merge_common_suffices g bottom ≡ some g' → Keeps g g'
unfolding try_merge_common_suffices merges_suffices is_merge
merge-keeps' g g' bottom sound did =
    let h = given-some _ _ g' did in
    let a = and_split (ltb 0 (length (incoming_nodes g bottom))) _ h.0 in
    let b = nonempty (incoming_nodes g bottom) (ltb-true _ _ a.0) in
    let e = of-mem-ins g b.0 bottom b.1 in
    rw (← h.1) (merge_keeps g bottom sound.bounded sound.rank sound.ranks (rw e.3 at (sound.bounded e.0 e.1).1) h.0)
