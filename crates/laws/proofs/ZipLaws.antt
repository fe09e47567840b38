-- Zipping one chain keeps the strings.
-- Assumes nothing.
use Prim.Native.Nat.{ℕ, zero, suc, ◌+◌, ◌≤◌, ◌<◌}
use native.Mathlib.Omega.{arith}
use mathlib.Core.Path.{◌≡◌, refl, sym, ap, ◌∙◌}
use mathlib.Core.Logic.{◌⊎◌, inl, inr, ⊎_elim, ◌↔◌}
use mathlib.Core.Bool.{Bool, true, false, cond, not, ◌&&◌, true≢false}
use mathlib.Core.List.Memᴰ
use mathlib.Core.List.{List, [], ◌∷◌, ◌++◌, map, append_assoc, append-nil, Memᴰ}
use lib.Dec.{eqb, ltb}
use lib.ListN.{length, get_or, set, length-set, length-map}
use lib.Seq.{get_or-set_same, get_or-set_other}
use borrow.Author.Tests.{eqb-true, eqb-false, eq-eqb, ne_eqb, not-true}
use Rattle.defs.specs.Lists.{concat, elem_of, head_or}
use Rattle.defs.specs.SeqGraph.{Edge, Graph, node_count, vertex_sequence, outgoing_nodes, incoming_nodes, edges_from, edges_into, out_degree}
use Rattle.defs.specs.SeqGraph.{in_degree, is_reference_node, keeps, remove_vertices_by_id, compact_vertices}
use Rattle.defs.specs.Zip.{chain_goes_on, trace_linear_chain, last_of, move_from, merge_linear_chain}
use Rattle.defs.specs.Strings.{HasEdge, Spells}
use Rattle.laws.proofs.Walks.{Net, Pt, start, at, stop, Go, text, IsSource, IsSink, Steps, stay, step, single, then, cast, Reads}
use Rattle.laws.proofs.Walks.{Tour, hit, pass, Replaces, kept, reads, by_test}
use Rattle.laws.proofs.ListLaws.{clash, and_split, by_order}
use Rattle.laws.proofs.Nets.{Ranks, ranks-restrict, closed, net_of, part_of, Bounded, reads-restrict, of-reads-restrict, spells-reads}
use Rattle.laws.proofs.Nets.{reads-spells, bounded-restrict, edge-inside}
use Rattle.laws.proofs.Edges.{Linked, keeps-not, not-keeps, keeps-other, elem_of-true, elem_of-mem, only_out_lem}
use Rattle.laws.proofs.Sound.{Keeps}
use Rattle.laws.proofs.MergeCounts.{mem-head}
use Rattle.laws.proofs.Diamonds.{of-mem-outs, only-in}
use Rattle.laws.proofs.Changes.{Agree, Via, agree-replaces}

first_out : (g : Graph) (x : ℕ) → out_degree g x ≡ 1 → HasEdge g x (head_or 0 (outgoing_nodes g x))
first_out g x d = of-mem-outs g x (head_or 0 (outgoing_nodes g x)) (mem-head (outgoing_nodes g x) (unfold outgoing_nodes out_degree in
    omega (arith, d, length-map (edges_from g x) (λ (e : Edge). e.to))))

-- x and then each of ys: each leads only to the next, and the next is led to only from it
abbrev pub Chained : Graph → ℕ → List ℕ → Type 0
Chained g x [] = Unit {0}
Chained g x (y ∷ ys) = HasEdge g x y × ((w : ℕ) → HasEdge g x w → w ≡ y) × ((u : ℕ) → HasEdge g u y → u ≡ x) × Chained g y ys

module _ (g : Graph) (bounded : Bounded g) (r : ℕ → ℕ) (ranks : Ranks g r) where
  abbrev pub N : Net
  N = net_of g

  -- along the chain
  pub along : (x : ℕ) (ys : List ℕ) → Chained g x ys → Steps N (at x) (at (last_of x ys)) (concat (map (vertex_sequence g) ys))
  unfolding last_of concat
  along x [] c = stay
  along x (y ∷ ys) (h, o, i, c) = step {p = at x} {q = at y} h (along y ys c)

  pub last-in : (x : ℕ) (ys : List ℕ) → Memᴰ (last_of x ys) (x ∷ ys)
  unfolding last_of
  last-in x [] = Memᴰ.head refl
  last-in x (y ∷ ys) = Memᴰ.tail (last-in y ys)

  pub rank-in : (x : ℕ) (ys : List ℕ) → Chained g x ys → (w : ℕ) → Memᴰ w (x ∷ ys) → (r x ≤ r w) × (r w ≤ r (last_of x ys))
  unfolding last_of
  rank-in x [] c w m = ⊎_elim (λ (e : w ≡ x). rw e (omega arith)) (λ n. absurd (Memᴰ.not-nil n)) (Memᴰ.cases_cons m)
  rank-in x (y ∷ ys) (h, o, i, c) w m =
      let a = ranks x y h in
      ⊎_elim (λ (e : w ≡ x). let b = rank-in y ys c y (Memᴰ.head refl) in rw e (omega arith)) (λ n. let b = rank-in y ys c w n in
      omega arith) (Memᴰ.cases_cons m)

  -- what is led to from a chain's vertex is in the chain, unless the vertex is the last
  pub out-in : (x : ℕ) (ys : List ℕ) → Chained g x ys → (u w : ℕ) → Memᴰ u (x ∷ ys) → HasEdge g u w → (u ≡ last_of x ys) ⊎ Memᴰ w ys
  unfolding last_of
  out-in x [] c u w m l = ⊎_elim (λ (e : u ≡ x). inl e) (λ n. absurd (Memᴰ.not-nil n)) (Memᴰ.cases_cons m)
  out-in x (y ∷ ys) (h, o, i, c) u w m l =
      ⊎_elim (λ (e : u ≡ x). inr (Memᴰ.head (o w (rw e at l)))) (λ n. ⊎_elim inl (λ k. inr (Memᴰ.tail k)) (out-in y ys c u w n l))
      (Memᴰ.cases_cons m)

  -- what leads to a vertex behind the first is in the chain
  pub in-in : (x : ℕ) (ys : List ℕ) → Chained g x ys → (u w : ℕ) → Memᴰ w ys → HasEdge g u w → Memᴰ u (x ∷ ys)
  in-in x [] c u w m l = absurd (Memᴰ.not-nil m)
  in-in x (y ∷ ys) (h, o, i, c) u w m l =
      ⊎_elim (λ (e : w ≡ y). Memᴰ.head (i u (rw e at l))) (λ n. Memᴰ.tail (in-in y ys c u w n l)) (Memᴰ.cases_cons m)

  pub pred_in : (x : ℕ) (ys : List ℕ) → Chained g x ys → (w : ℕ) → Memᴰ w ys → (u : ℕ) × HasEdge g u w
  pred_in x [] c w m = absurd (Memᴰ.not-nil m)
  pred_in x (y ∷ ys) (h, o, i, c) w m = ⊎_elim {C = (u : ℕ) × HasEdge g u w} (λ (e : w ≡ y). (x, rw e h)) (λ n. pred_in y ys c w n) (Memᴰ.cases_cons m)

  module _ (s y : ℕ) (ys : List ℕ) (chained : Chained g s (y ∷ ys)) where
    abbrev pub rest : List ℕ
    rest = y ∷ ys

    abbrev pub last : ℕ
    last = last_of s (y ∷ ys)

    abbrev pub G : Graph
    G = record {
      k = g.k;
      verts = set g.verts s (concat (map (vertex_sequence g) (s ∷ y ∷ ys)));
      edges = map (move_from last (s ∷ y ∷ ys) s) g.edges;
    }

    pub common : ℕ → Bool
    common = keeps (s ∷ y ∷ ys)

    unfoldable pub U : Net
    U = part_of (keeps (y ∷ ys)) G

    pub out-last : (w : ℕ) → HasEdge g last w → Memᴰ w (s ∷ y ∷ ys) → ⊥
    out-last w h m = let a = rank-in s rest chained w m in omega (arith, ranks last w h)

    pub s-not-last : s ≡ last → ⊥
    s-not-last e = let a = ranks s y chained.0 in let b = rank-in s rest chained y (Memᴰ.tail (Memᴰ.head refl)) in omega (arith, ap r e)

    -- the edges of the joined graph
    pub src-moved : (e : Edge) → Memᴰ e g.edges → e.from ≡ last → (move_from last (s ∷ rest) s e).from ≡ s
    unfolding move_from
    src-moved e m p =
        rw (
          eq-eqb e.from last p,
          by_test {X = elem_of e.to (s ∷ rest) ≡ false} (elem_of e.to (s ∷ rest)) (λ t.
              absurd (out-last e.to (e, m, p, refl) (elem_of-true _ _ t))) (λ t. t),
        )

    pub src-kept : (e : Edge) → (e.from ≡ last → ⊥) → (move_from last (s ∷ rest) s e).from ≡ e.from
    unfolding move_from
    src-kept e n = rw (ne_eqb e.from last n)

    pub moved : (w : ℕ) → HasEdge g last w → HasEdge G s w
    unfolding move_from
    moved w (e, m, p, q) = (move_from last (s ∷ rest) s e, Memᴰ.map (move_from last (s ∷ rest) s) m, src-moved e m p, q)

    pub unmoved : (u w : ℕ) → HasEdge g u w → (u ≡ last → ⊥) → HasEdge G u w
    unfolding move_from
    unmoved u w (e, m, p, q) n = (move_from last (s ∷ rest) s e, Memᴰ.map (move_from last (s ∷ rest) s) m, src-kept e (λ i. n (sym p ∙ i)) ∙ p, q)

    pub of-G : {X : Type 0} (u w : ℕ) → HasEdge G u w → (HasEdge g u w → (u ≡ last → ⊥) → X) → (u ≡ s → HasEdge g last w → X) → X
    unfolding move_from
    of-G u w (e, m, p, q) k h =
        let a = Memᴰ.of_map (move_from last (s ∷ rest) s) g.edges m in
        let f = a.0 in
        let d : f.to ≡ w = ap (λ (e : Edge). e.to) a.2 ∙ q in
        let b : (move_from last (s ∷ rest) s f).from ≡ u = ap (λ (e : Edge). e.from) a.2 ∙ p in
        by_test (eqb f.from last)
        (λ t. let i = eqb-true f.from last t in h (sym b ∙ src-moved f a.1 i) (f, a.1, i, d))
        (λ t. let n = eqb-false f.from last t in let j = sym (src-kept f n) ∙ b in k (f, a.1, j, d) (λ i. n (j ∙ i)))

    -- its vertices
    pub order-G : node_count G ≡ node_count g
    unfolding node_count
    order-G = length-set g.verts s _

    pub seq-other : (v : ℕ) → (v ≡ s → ⊥) → vertex_sequence G v ≡ vertex_sequence g v
    unfolding vertex_sequence
    seq-other v n = get_or-set_other g.verts s v _ [] n

    pub seq-s : vertex_sequence G s ≡ vertex_sequence g s ++ concat (map (vertex_sequence g) rest)
    unfolding vertex_sequence node_count concat
    seq-s = get_or-set_same g.verts s _ [] (unfold node_count in (edge-inside g bounded s y chained.0).0)

    pub common-not : (v : ℕ) → common v ≡ true → Memᴰ v (s ∷ rest) → ⊥
    unfolding common
    common-not v t = keeps-not (s ∷ rest) v t

    pub not-common : (v : ℕ) → common v ≡ false → Memᴰ v (s ∷ rest)
    unfolding common
    not-common v t = not-keeps (s ∷ rest) v t

    pub is-common : (v : ℕ) → (Memᴰ v (s ∷ rest) → ⊥) → common v ≡ true
    unfolding common
    is-common v n = keeps-other (s ∷ rest) v n

    pub common-keep : (v : ℕ) → common v ≡ true → keeps rest v ≡ true
    common-keep v t = keeps-other rest v (λ m. common-not v t (Memᴰ.tail m))

    pub s-keep : keeps rest s ≡ true
    s-keep = keeps-other rest s λ m. let a = pred_in s rest chained s m in let b = rank-in
        s rest chained a.0 (in-in s rest chained a.0 s m a.1) in omega (arith, ranks a.0 s a.1)

    pub last-not : (u : ℕ) → common u ≡ true → u ≡ last → ⊥
    last-not u t e = common-not u t (rw e (last-in s rest))

    pub forth : Agree N U common
    unfolding U
    forth = record {
      vx = λ v t h. (rw order-G h, common-keep v t);
      ends = edge-inside g bounded;
      ed = λ u v a b h. (unmoved u v h (last-not u a), common-keep u a, common-keep v b);
      lab = λ v t h. seq-other v (λ e. common-not v t (Memᴰ.head e));
      source = λ v t h x k. of-G x v k.0 (λ l _. h.1 x l) (λ _ l. h.1 last l);
      sink = λ v t h x k. of-G v x k.0 (λ l _. h.1 x l) (λ e _. common-not v t (Memᴰ.head e));
    }

    pub back : Agree U N common
    unfolding U
    back = record {
      vx = λ v t h. rw order-G at h.0;
      ends = λ u v h. of-G u v h.0 (λ l _. let b = edge-inside g bounded u v l in ((rw order-G b.0, h.1), (rw order-G b.1, h.2))) (λ e l.
          ((rw (order-G, e) (edge-inside g bounded s y chained.0).0, h.1), (rw order-G (edge-inside g bounded last v l).1, h.2)));
      ed = λ u v a b h. of-G u v h.0 (λ l _. l) (λ e _. absurd (common-not u a (Memᴰ.head e)));
      lab = λ v t h. sym (seq-other v (λ e. common-not v t (Memᴰ.head e)));
      source = λ v t h x k. by_test (common x)
          (λ c. h.1 x (unmoved x v k (last-not x c), common-keep x c, common-keep v t))
          (λ c. ⊎_elim (λ (e : x ≡ last). h.1 s (moved v (rw e at k), s-keep, common-keep v t)) (λ m. common-not v t (Memᴰ.tail m))
          (out-in s rest chained x v (not-common x c) k));
      sink = λ v t h x k. by_test (common x)
          (λ c. h.1 x (unmoved v x k (last-not v t), common-keep v t, common-keep x c))
          (λ c. ⊎_elim
          (λ (e : x ≡ s). h.1 s (rw e at (unmoved v x k (last-not v t)), common-keep v t, s-keep))
          (λ m. common-not v t (in-in s rest chained v x m k))
          (Memᴰ.cases_cons (not-common x c)));
    }

    -- a tour that enters the chain follows it to the last vertex and leaves from there
    pub Leaves : Pt → List ℕ → Type 0
    Leaves q t = (Go N (at last) q) × (kept common q ≡ true) × (t ≡ text N q)

    pub follow : (x : ℕ) (zs : List ℕ) → Chained g x zs → ((w : ℕ) → Memᴰ w zs → Memᴰ w (s ∷ rest)) → last_of x zs ≡ last
        → {q : Pt} {t : List ℕ} → Tour N common (at x) q t → (t₁ : List ℕ) × (t ≡ concat (map (vertex_sequence g) zs) ++ t₁) × Leaves q t₁
    unfolding last_of concat Leaves
    follow x [] c sub e (hit {q = q} h k) = (text N q, refl, (rw e at h, k, refl))
    follow x [] c sub e (pass {q = start} h k w) = absurd h
    follow x [] c sub e (pass {q = at v} h k w) = absurd (out-last v (rw e at h) (not-common v k))
    follow x [] c sub e (pass {q = stop} h k w) = absurd (true≢false k)
    follow x (z ∷ zs) (a, o, i, c) sub e (hit {q = start} h k) = absurd h
    follow x (z ∷ zs) (a, o, i, c) sub e (hit {q = at v} h k) = absurd (common-not v k (rw (o v h) (sub z (Memᴰ.head refl))))
    follow x (z ∷ zs) (a, o, i, c) sub e (hit {q = stop} h k) = absurd (h.1 z a)
    follow x (z ∷ zs) (a, o, i, c) sub e (pass {q = start} h k w) = absurd h
    follow x (z ∷ zs) (a, o, i, c) sub e (pass {q = at v} {s = t} h k w) =
        let j = o v h in
        let d = follow z zs c (λ w m. sub w (Memᴰ.tail m)) e (rw j at w) in (
          d.0,
          ap (λ v. vertex_sequence g v ++ t) j ∙ (ap (λ l. vertex_sequence g z ++ l) d.1
              ∙ sym (append_assoc (vertex_sequence g z) (concat (map (vertex_sequence g) zs)) d.0)),
          d.2,
        )
    follow x (z ∷ zs) (a, o, i, c) sub e (pass {q = stop} h k w) = absurd (true≢false k)

    -- the first vertex is the way in
    pub enter : {X : Type 0} (p : Pt) (x : ℕ) → kept common p ≡ true → Go N p (at x) → Memᴰ x (s ∷ rest) → (x ≡ s → X) → X
    enter start x t h m f = ⊎_elim f (λ n. let a = pred_in s rest chained x n in absurd (h.1 a.0 a.1)) (Memᴰ.cases_cons m)
    enter (at u) x t h m f = ⊎_elim f (λ n. absurd (common-not u t (in-in s rest chained u x n h))) (Memᴰ.cases_cons m)
    enter stop x t h m f = absurd h

    pub s-old : s < node_count g
    s-old = (edge-inside g bounded s y chained.0).0

    pub last-old : last < node_count g
    last-old = ⊎_elim (λ (e : last ≡ s). rw e s-old) (λ n. let a = pred_in s rest chained last n in (edge-inside g bounded a.0 last a.1).1)
        (Memᴰ.cases_cons (last-in s rest))

    pub to-s : (p : Pt) → kept common p ≡ true → Go N p (at s) → Go U p (at s)
    unfolding U
    to-s start t h = ((rw order-G s-old, s-keep), λ u l. of-G u s l.0 (λ k _. h.1 u k) (λ _ k. out-last s k (Memᴰ.head refl)))
    to-s (at u) t h = (unmoved u s h (last-not u t), common-keep u t, s-keep)
    to-s stop t h = absurd h

    pub of-s : (p : Pt) → kept common p ≡ true → Go U p (at s) → Go N p (at s)
    unfolding U
    of-s start t h = (s-old, λ u l. h.1 u (unmoved u s l (λ e. out-last s (rw e at l) (Memᴰ.head refl)), pred-keep u l, s-keep))
      where
        pred-keep : (u : ℕ) → HasEdge g u s → keeps rest u ≡ true
        pred-keep u l = keeps-other rest u λ m. let a = rank-in s rest chained u (Memᴰ.tail m) in omega (arith, ranks u s l)
    of-s (at u) t h = of-G u s h.0 (λ l _. l) (λ _ l. absurd (out-last s l (Memᴰ.head refl)))
    of-s stop t h = absurd h

    -- the way out of s in the joined graph is the way out of last
    pub out-s : {X : Type 0} (w : ℕ) → U.Ed s w → (HasEdge g last w → X) → X
    unfolding U
    out-s w h f = of-G s w h.0 (λ l _. absurd (keeps-not rest w h.2 (Memᴰ.head (chained.1 w l)))) (λ _ l. f l)

    pub U-last : (w : ℕ) → HasEdge g last w → U.Ed s w
    unfolding U
    U-last w l = (moved w l, s-keep, keeps-other rest w (λ m. out-last w l (Memᴰ.tail m)))

    pub leave : (q : Pt) → kept common q ≡ true → Go N (at last) q → Steps U (at s) q (text N q)
    unfolding U
    leave start k h = absurd h
    leave (at w) k h = cast (seq-other w (λ e. common-not w k (Memᴰ.head e))) (single {p = at s} {q = at w} (U-last w h))
    leave stop k h = single {p = at s} {q = stop} ((rw order-G s-old, s-keep), λ w l. out-s w l (h.1 w))

    pub over-chain : (p q : Pt) (t : List ℕ) → kept common p ≡ true → Go N p (at s) → Tour N common (at s) q t → Steps U p q (vertex_sequence g s ++ t)
    unfolding Leaves U
    over-chain p q t k h w =
        let d = follow s rest chained (λ w m. Memᴰ.tail m) refl w in
        cast (rw (seq-s, d.1, d.2.2, append_assoc)) (step {q = at s} (to-s p k h) (leave q d.2.1 d.2.0))

    pub via-forth : Via N U common
    via-forth p q t x k h n w = enter p x k h (not-common x n) λ e. rw e (over-chain p q t k (rw e at h) (rw e at w))

    -- the joined vertex is the only one of U that is not common
    pub is-s : {X : Type 0} (p : Pt) (x : ℕ) → Go U p (at x) → common x ≡ false → (x ≡ s → X) → X
    unfolding U
    is-s p x h n f = ⊎_elim f (λ m. absurd (keeps-not rest x (kept_of p h) m)) (Memᴰ.cases_cons (not-common x n))
      where
        kept_of : (p : Pt) → Go (part_of (keeps rest) G) p (at x) → keeps rest x ≡ true
        kept_of start h = h.0.1
        kept_of (at u) h = h.2
        kept_of stop h = absurd h

    pub through : (p q : Pt) → Go N p (at s) → Go N (at last) q → Steps N p q (vertex_sequence G s ++ text N q)
    through p q h l =
        cast (rw (seq-s, append_assoc)) (step {q = at s} h (then (along s rest chained) (single {p = at last} {q = q} l)))

    pub over-joined : (p q : Pt) (t : List ℕ) → kept common p ≡ true → Go U p (at s) → Tour U common (at s) q t → Steps N p q (vertex_sequence G s ++ t)
    unfolding U
    over-joined p q t k h (hit {q = start} j n) = absurd j
    over-joined p q t k h (hit {q = at v} j n) = out-s v j λ l. rw (seq-other v (λ e. common-not v n (Memᴰ.head e))) (through p (at v) (of-s p k h) l)
    over-joined p q t k h (hit {q = stop} j n) = through p stop (of-s p k h) (last-old, λ w l. j.1 w (U-last w l))
    over-joined p q t k h (pass {q = start} j n w) = absurd j
    over-joined p q t k h (pass {q = at v} j n w) = out-s v j λ l. absurd (out-last v l (not-common v n))
    over-joined p q t k h (pass {q = stop} j n w) = absurd (true≢false n)

    pub via-back : Via U N common
    unfolding U
    via-back p q t x k h n w = is-s p x h n λ e. rw e (over-joined p q t k (rw e at h) (rw e at w))

    pub bounded_g : Bounded G
    bounded_g e m = of-G e.from e.to (e, m, refl, refl)
        (λ l _. let b = edge-inside g bounded e.from e.to l in (rw order-G b.0, rw order-G b.1))
        (λ i l. (rw (order-G, i) s-old, rw order-G (edge-inside g bounded last e.to l).1))

    pub bounded-zip : Bounded (merge_linear_chain g s rest)
    unfolding merge_linear_chain remove_vertices_by_id
    bounded-zip = bounded-restrict (keeps rest) G bounded_g

    pub zip-spells : {t : List ℕ} → Spells g t ↔ Spells (merge_linear_chain g s rest) t
    unfolding merge_linear_chain remove_vertices_by_id U
    zip-spells = (
      λ w. reads-spells (merge_linear_chain g s rest) bounded-zip
          (reads-restrict (keeps rest) G bounded_g (reads N U common (agree-replaces N U common forth via-forth) (spells-reads g w))),
      λ w. reads-spells g bounded (reads U N common (agree-replaces U N common back via-back)
          (of-reads-restrict (keeps rest) G bounded_g (spells-reads (merge_linear_chain g s rest) w))),
    )

    pub ranks_g : Ranks G r
    ranks_g u v h = of-G u v h (λ l _. ranks u v l) (λ e l. let a = rank-in s rest chained last (last-in s rest) in omega (arith, ap r e, ranks last v l))

    pub zip-keeps : Keeps g (merge_linear_chain g s rest)
    unfolding merge_linear_chain remove_vertices_by_id
    zip-keeps = record {
      sound = record { bounded = bounded-zip; rank = closed (keeps rest) G bounded_g r; ranks = ranks-restrict (keeps rest) G bounded_g r ranks_g };
      spells = λ t. zip-spells;
    }

-- the chain that is traced is one
pub chained-after : (g : Graph) (fuel x : ℕ) → Chained g x (trace_linear_chain fuel g x)
unfolding trace_linear_chain chain_goes_on
chained-after g zero x = tt
chained-after g (suc fuel) x =
    let y = head_or 0 (outgoing_nodes g x) in
    by_test (chain_goes_on g x y)
    (λ t. rw (t, trace_linear_chain)
    (let a = and_split (eqb (out_degree g x) 1) _ t in
    let b = and_split (eqb (in_degree g y) 1) _ a.1 in
    let d : out_degree g x ≡ 1 = eqb-true _ _ a.0 in
    let h = first_out g x d in
    (h, λ w l. only_out_lem g x w y d l h, λ u l. only-in g u x y (eqb-true _ _ b.0) l h, chained-after g fuel y)))
    (λ t. rw (t, trace_linear_chain) tt)
