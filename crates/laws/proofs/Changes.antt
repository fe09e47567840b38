-- What a change does to the strings, the invariants and the counts, whichever rewrite it is of.
-- Assumes nothing.
use Prim.Native.Nat.{ℕ, ◌+◌, ◌≤◌, ◌<◌}
use native.Mathlib.Omega.{arith}
use mathlib.Core.Path.{◌≡◌, refl, sym, ap}
use mathlib.Core.Logic.{◌⊎◌, ⊎_elim, ◌↔◌}
use mathlib.Core.Bool.{Bool, true, false, ◌&&◌, true≢false}
use mathlib.Core.List.{List, [], ◌++◌, Memᴰ}
use lib.Dec.{ltb}
use lib.ListN.{length, get_or, length-map}
use borrow.Author.Tests.{ltb-true, lt-ltb}
use Rattle.defs.specs.Lists.{keep_if}
use Rattle.defs.specs.SeqGraph.{Edge, Graph, node_count, vertex_sequence, keeps, Change, with_additions, apply_change, remove_vertices_by_id}
use Rattle.defs.specs.SeqGraph.{compact_vertices, add_or_update_edges, remap_edge}
use Rattle.defs.specs.Strings.{HasEdge, Spells}
use Rattle.laws.proofs.Walks.{Net, Pt, start, at, stop, Go, IsSource, IsSink, Steps, single, cast, Tour, hit, pass, Replaces, kept, reads, by_test}
use Rattle.laws.proofs.ListLaws.{clash, and_split, and-true, by_order}
use Rattle.laws.proofs.Nets.{Ranks, ranks-restrict, closed, net_of, part_of, Bounded, reads-restrict, of-reads-restrict, spells-reads}
use Rattle.laws.proofs.Nets.{reads-spells, bounded-restrict, edge-inside}
use Rattle.laws.proofs.Edges.{Linked, raise_all-keeps, raise_all-adds, of-raise_all, keeps-not, not-keeps, keeps-other, order-grown, seq-grown-old}
use Rattle.laws.proofs.Counts.{total, total-append, total-one, total-same, Distinct, total_kept, Single, single-raise_all}
use Rattle.laws.proofs.Counts.{single-renumber, count-raise_all, length_both, gone-raise_all}
use Rattle.laws.proofs.Cycles.{distinct-length}

-- two nets agree on the common vertices
pub record Agree (N M : Net) (common : ℕ → Bool) : Type 0 where
  pub vx : (v : ℕ) → common v ≡ true → N.Vx v → M.Vx v
  pub ends : (u v : ℕ) → N.Ed u v → N.Vx u × N.Vx v
  pub ed : (u v : ℕ) → common u ≡ true → common v ≡ true → N.Ed u v → M.Ed u v
  pub lab : (v : ℕ) → common v ≡ true → N.Vx v → M.lab v ≡ N.lab v
  pub source : (v : ℕ) → common v ≡ true → IsSource N v → (x : ℕ) → M.Ed x v → ⊥
  pub sink : (v : ℕ) → common v ≡ true → IsSink N v → (x : ℕ) → M.Ed v x → ⊥

-- each tour over vertices that are not common has a walk in the other net
abbrev pub Via : Net → Net → (ℕ → Bool) → Type 0
Via N M common = (p q : Pt) (s : List ℕ) (x : ℕ) → kept common p ≡ true → Go N p (at x) → common x ≡ false → Tour N common (at x) q s
    → Steps M p q (N.lab x ++ s)

pub agree-replaces : (N M : Net) (common : ℕ → Bool) → Agree N M common → Via N M common → Replaces N M common
agree-replaces N M common a via start q s t (hit {q = start} h k) = absurd h
agree-replaces N M common a via start q s t (hit {q = at v} h k) = cast (a.lab v k h.0) (single (a.vx v k h.0, a.source v k h))
agree-replaces N M common a via start q s t (hit {q = stop} h k) = absurd h
agree-replaces N M common a via start q s t (pass {q = start} h k w) = absurd h
agree-replaces N M common a via start q s t (pass {q = at v} {s = s₁} h k w) = via start q s₁ v t h k w
agree-replaces N M common a via start q s t (pass {q = stop} h k w) = absurd h
agree-replaces N M common a via (at u) q s t (hit {q = start} h k) = absurd h
agree-replaces N M common a via (at u) q s t (hit {q = at v} h k) = cast (a.lab v k (a.ends u v h).1) (single (a.ed u v t k h))
agree-replaces N M common a via (at u) q s t (hit {q = stop} h k) = single (a.vx u t h.0, a.sink u t h)
agree-replaces N M common a via (at u) q s t (pass {q = start} h k w) = absurd h
agree-replaces N M common a via (at u) q s t (pass {q = at v} {s = s₁} h k w) = via (at u) q s₁ v t h k w
agree-replaces N M common a via (at u) q s t (pass {q = stop} h k w) = absurd (true≢false k)
agree-replaces N M common a via stop q s t (hit h k) = absurd h
agree-replaces N M common a via stop q s t (pass h k w) = absurd h

-- a change that replaces the vertices that go by new ones between the same neighbours
pub record Local (g : Graph) (c : Change) : Type 0 where
  pub below : (u v : ℕ) → Linked c.edges u v → (u < node_count (with_additions c g)) × (v < node_count (with_additions c g))
  pub stays : (u v : ℕ) → Linked c.edges u v → (Memᴰ u c.gone → ⊥) × (Memᴰ v c.gone → ⊥)
  pub fresh : (u v : ℕ) → Linked c.edges u v → u < node_count g → v < node_count g → ⊥
  pub old : (v : ℕ) → Memᴰ v c.gone → v < node_count g
  pub in₁ : (x v : ℕ) → HasEdge g x v → Memᴰ x c.gone → (Memᴰ v c.gone → ⊥) → (y : ℕ) × Linked c.edges y v
  pub in₂ : (y v : ℕ) → Linked c.edges y v → v < node_count g → (x : ℕ) × HasEdge g x v
  pub out₁ : (u x : ℕ) → HasEdge g u x → Memᴰ x c.gone → (Memᴰ u c.gone → ⊥) → (y : ℕ) × Linked c.edges u y
  pub out₂ : (u y : ℕ) → Linked c.edges u y → u < node_count g → (x : ℕ) × HasEdge g u x

module _ (g : Graph) (bounded : Bounded g) (c : Change) where
  abbrev pub keep : ℕ → Bool
  keep = keeps c.gone

  abbrev pub common : ℕ → Bool
  common v = keeps c.gone v && ltb v (node_count g)

  abbrev pub N : Net
  N = net_of g

  abbrev pub U : Net
  U = part_of keep (with_additions c g)

  pub common-is : (v : ℕ) → common v ≡ true → (keep v ≡ true) × (v < node_count g)
  common-is v t = let h = and_split _ _ t in (h.0, ltb-true _ _ h.1)

  pub is-common : (v : ℕ) → keep v ≡ true → v < node_count g → common v ≡ true
  is-common v t h = and-true _ _ t (lt-ltb _ _ h)

  pub old-less : (v : ℕ) → v < node_count g → v < node_count (with_additions c g)
  old-less v h = omega (arith, order-grown g c)

  pub grown-old : (u v : ℕ) → HasEdge g u v → HasEdge (with_additions c g) u v
  unfolding with_additions
  grown-old u v h = raise_all-keeps c.edges g.edges u v h

  pub grown-new : (u v : ℕ) → Linked c.edges u v → HasEdge (with_additions c g) u v
  unfolding with_additions
  grown-new u v h = raise_all-adds c.edges g.edges u v h

  pub of-grown : {X : Type 0} (u v : ℕ) → HasEdge (with_additions c g) u v → (HasEdge g u v → X) → (Linked c.edges u v → X) → X
  unfolding with_additions
  of-grown u v h k j = of-raise_all c.edges g.edges u v h k j

  module _ (l : Local g c) where
    pub bounded-grown : Bounded (with_additions c g)
    bounded-grown e m = of-grown e.from e.to (e, m, refl, refl)
        (λ h. let b = edge-inside g bounded e.from e.to h in (old-less e.from b.0, old-less e.to b.1))
        (l.below e.from e.to)

    pub link-U : (u v : ℕ) → Linked c.edges u v → U.Ed u v
    link-U u v h = let k = l.stays u v h in (grown-new u v h, keeps-other _ u k.0, keeps-other _ v k.1)

    -- an edge from or to a new vertex is a link
    pub of-U-new : (u v : ℕ) → U.Ed u v → (node_count g ≤ u) ⊎ (node_count g ≤ v) → Linked c.edges u v
    of-U-new u v h n = of-grown u v h.0 (λ k. let b = edge-inside g bounded u v k in
        absurd (⊎_elim (λ (i : node_count g ≤ u). omega arith) (λ (i : node_count g ≤ v). omega arith) n)) (λ k. k)

    pub forth : Agree N U common
    forth = record {
      vx = λ v t h. (old-less v h, (common-is v t).0);
      ends = edge-inside g bounded;
      ed = λ u v s t h. (grown-old u v h, (common-is u s).0, (common-is v t).0);
      lab = λ v t h. seq-grown-old g c v h;
      source = λ v t h x k. of-grown x v k.0 (h.1 x) (λ j. let z = l.in₂ x v j h.0 in h.1 z.0 z.1);
      sink = λ v t h x k. of-grown v x k.0 (h.1 x) (λ j. let z = l.out₂ v x j h.0 in h.1 z.0 z.1);
    }

    pub back : Agree U N common
    back = record {
      vx = λ v t h. (common-is v t).1;
      ends = λ u v h. let b = bounded-grown h.0.0 h.0.1 in ((rw h.0.2 at b.0, h.1), (rw h.0.3 at b.1, h.2));
      ed = λ u v s t h. of-grown u v h.0 (λ k. k) (λ k. absurd (l.fresh u v k (common-is u s).1 (common-is v t).1));
      lab = λ v t h. sym (seq-grown-old g c v (common-is v t).1);
      source = λ v t h x k. by_test (keep x)
          (λ y. h.1 x (grown-old x v k, y, h.0.1))
          (λ y. let z = l.in₁ x v k (not-keeps _ x y) (keeps-not _ v h.0.1) in h.1 z.0 (link-U z.0 v z.1));
      sink = λ v t h x k. by_test (keep x)
          (λ y. h.1 x (grown-old v x k, h.0.1, y))
          (λ y. let z = l.out₁ v x k (not-keeps _ x y) (keeps-not _ v h.0.1) in h.1 z.0 (link-U v z.0 z.1));
    }

    -- what is left to show of a rewrite: the tours over the vertices that go, and over the new ones
    abbrev pub Forth : Type 0
    Forth = (p q : Pt) (s : List ℕ) (x : ℕ) → kept common p ≡ true → Go N p (at x) → Memᴰ x c.gone → Tour N common (at x) q s
        → Steps U p q (vertex_sequence g x ++ s)

    abbrev pub Back : Type 0
    Back = (p q : Pt) (s : List ℕ) (y : ℕ) → kept common p ≡ true → Go U p (at y) → node_count g ≤ y → Tour U common (at y) q s
        → Steps N p q (vertex_sequence (with_additions c g) y ++ s)

    via-forth : Forth → Via N U common
    via-forth f p q s x t h k w = f p q s x t h (not-keeps _ x (by_test (keep x) (λ y. clash (is-common x y (old_of p h)) k) (λ y. y))) w
      where
        old_of : (p : Pt) → Go N p (at x) → x < node_count g
        old_of start h = h.0
        old_of (at u) h = (edge-inside g bounded u x h).1
        old_of stop h = absurd h

    via-back : Back → Via U N common
    via-back f p q s y t h k w = f p q s y t h (by_order (node_count g) y (λ i. i) (λ i. clash (is-common y (kept_of p h) i) k)) w
      where
        kept_of : (p : Pt) → Go U p (at y) → keep y ≡ true
        kept_of start h = h.0.1
        kept_of (at u) h = h.2
        kept_of stop h = absurd h

    -- an old vertex that leads nowhere afterwards led nowhere before
    pub sink-old : (v : ℕ) → v < node_count g → IsSink U v → (w : ℕ) → HasEdge g v w → ⊥
    sink-old v h k w l = back.sink v (is-common v k.0.1 h) k w l

    pub bounded-change : Bounded (apply_change g c)
    unfolding apply_change remove_vertices_by_id
    bounded-change = bounded-restrict keep (with_additions c g) bounded-grown

    pub spells-change : Forth → Back → {s : List ℕ} → Spells g s ↔ Spells (apply_change g c) s
    unfolding apply_change remove_vertices_by_id
    spells-change f b = (
      λ w. reads-spells (apply_change g c) bounded-change (reads-restrict keep (with_additions c g) bounded-grown
          (reads N U common (agree-replaces N U common forth (via-forth f)) (spells-reads g w))),
      λ w. reads-spells g bounded (reads U N common (agree-replaces U N common back (via-back b))
          (of-reads-restrict keep (with_additions c g) bounded-grown (spells-reads (apply_change g c) w))),
    )

    pub ranks-change : (r : ℕ → ℕ) → Ranks (with_additions c g) r → (r' : ℕ → ℕ) × Ranks (apply_change g c) r'
    unfolding apply_change remove_vertices_by_id
    ranks-change r h = (closed keep (with_additions c g) bounded-grown r, ranks-restrict keep (with_additions c g) bounded-grown r h)

    -- counts
    total-grown : (f : List ℕ → ℕ) → total f (with_additions c g).verts ≡ total f g.verts + total f c.verts
    unfolding with_additions
    total-grown f = total-append f g.verts c.verts

    pub weight-change : (f : List ℕ → ℕ) → Distinct c.gone → total f (apply_change g c).verts
        + total (λ v. f (vertex_sequence g v)) c.gone ≡ total f g.verts + total f c.verts
    unfolding apply_change remove_vertices_by_id compact_vertices
    weight-change f d =
        omega (
          arith,
          total_kept f [] (with_additions c g).verts c.gone d gone-less,
          total-same (λ v. f (get_or (with_additions c g).verts v [])) (λ v. f (vertex_sequence g v)) c.gone (λ v m. ap f (same v (l.old v m))),
          total-grown f,
        )
      where
        same : (v : ℕ) → v < node_count g → get_or (with_additions c g).verts v [] ≡ vertex_sequence g v
        same v h = unfold vertex_sequence in seq-grown-old g c v h

        gone-less : (v : ℕ) → Memᴰ v c.gone → v < length (with_additions c g).verts
        gone-less v m = unfold node_count in (old-less v (l.old v m))

    pub order-change : Distinct c.gone → node_count (apply_change g c) + length c.gone ≡ node_count g + length c.verts
    order-change d = unfold node_count in omega (
      arith,
      weight-change (λ _. 1) d,
      total-one (apply_change g c).verts,
      total-one c.gone,
      total-one g.verts,
      total-one c.verts,
    )

  pub single-change : Single g.edges → Single (apply_change g c).edges
  unfolding apply_change remove_vertices_by_id compact_vertices with_additions
  single-change h = single-renumber keep (add_or_update_edges c.edges g.edges) (single-raise_all c.edges g.edges h)

  pub edges-change : length (apply_change g c).edges ≤ length c.edges + length (keep_if (λ e. keep e.from && keep e.to) g.edges)
  unfolding apply_change remove_vertices_by_id compact_vertices with_additions
  edges-change = omega (
    arith,
    length-map (keep_if (λ e. keep e.from && keep e.to) (add_or_update_edges c.edges g.edges))
        (remap_edge keep),
    count-raise_all keep c.edges g.edges,
  )

  -- Room inside a change: while all is added and nothing has gone yet, there are no more edges than before and afterwards together, and likewise vertices.
  pub edges-grown : ((u v : ℕ) → Linked c.edges u v → (keep u ≡ true) × (keep v ≡ true))
      → length (with_additions c g).edges ≤ length (apply_change g c).edges + length g.edges
  unfolding apply_change remove_vertices_by_id compact_vertices with_additions
  edges-grown k =
      let both : Edge → Bool = λ e. keep e.from && keep e.to in
      let ns = c.edges in
      let es = g.edges in
      omega (
        arith,
        length_both both (add_or_update_edges ns es),
        length_both both es,
        length-map (keep_if both (add_or_update_edges ns es)) (remap_edge keep),
        gone-raise_all keep ns es (λ n m. k n.from n.to (n, m, refl, refl)),
      )

  pub verts-grown : Distinct c.gone → ((v : ℕ) → Memᴰ v c.gone → v < node_count g) → node_count (apply_change g c)
      + length c.gone ≡ node_count g + length c.verts → node_count (with_additions c g) ≤ node_count (apply_change g c) + node_count g
  verts-grown d o e = omega (arith, order-grown g c, e, distinct-length (node_count g) c.gone d o)

  module _ (l : Local g c) where
    pub edges-local : length (with_additions c g).edges ≤ length (apply_change g c).edges + length g.edges
    edges-local = edges-grown (λ u v h. let k = l.stays u v h in (keeps-other _ u k.0, keeps-other _ v k.1))

    pub verts-local : Distinct c.gone → node_count (with_additions c g) ≤ node_count (apply_change g c) + node_count g
    verts-local d = verts-grown d l.old (order-change l d)
