-- A graph as a net; a graph that is restricted is the net of what is kept.
-- Assumes nothing.
use Prim.Native.Nat.{ℕ, zero, suc, ◌+◌, ◌≤◌, ◌<◌}
use native.Mathlib.Nat.{zero-add, add-zero, not-suc-le-zero, le_of_suc-le-suc}
use native.Mathlib.Omega.{arith}
use mathlib.Core.Path.{◌≡◌, refl, sym, ap, ◌∙◌, subst}
use mathlib.Core.Bool.{Bool, true, false, ◌&&◌}
use mathlib.Core.List.Memᴰ
use mathlib.Core.List.{List, [], ◌∷◌, ◌++◌, map, append_assoc, append-nil, Memᴰ}
use lib.ListN.{length, get_or, length-map}
use Rattle.defs.specs.Lists.{keep_if, keep_at, rank, concat, up_from}
use Rattle.defs.specs.SeqGraph.{Edge, Graph, node_count, vertex_sequence, remap_edge, compact_vertices}
use Rattle.defs.specs.Zip.{last_of}
use Rattle.defs.specs.Strings.{HasEdge, IsPath, Spells, spelled}
use Rattle.laws.proofs.Walks.{Net, Pt, start, at, stop, Go, text, Steps, stay, step, Reads, Carries, carry, cast}
use Rattle.laws.proofs.ListLaws.{mem-keep_if, of-keep_if, rank_lt, rank-inj, length-keep_at, get_or-keep_at, place-keep_at, and_split, and-true}

abbrev pub net_of : Graph → Net
net_of g = record { Vx = λ v. v < node_count g; Ed = HasEdge g; lab = vertex_sequence g }

-- what is kept of a graph, under the old numbers
abbrev pub part_of : (ℕ → Bool) → Graph → Net
part_of p g = record {
  Vx = λ v. (v < node_count g) × (p v ≡ true);
  Ed = λ u v. HasEdge g u v × (p u ≡ true) × (p v ≡ true);
  lab = vertex_sequence g;
}

-- the ends of each edge are vertices
abbrev pub Bounded : Graph → Type 0
Bounded g = (e : Edge) → Memᴰ e g.edges → (e.from < node_count g) × (e.to < node_count g)

pub edge-inside : (g : Graph) → Bounded g → (u v : ℕ) → HasEdge g u v → (u < node_count g) × (v < node_count g)
edge-inside g bounded u v (e, m, p, q) = rw (← p, ← q) (bounded e m)

-- there is a rank that rises along each edge
abbrev pub Ranks : Graph → (ℕ → ℕ) → Type 0
Ranks g r = (u v : ℕ) → HasEdge g u v → r u < r v

pub length-up_from : (i n : ℕ) → length (up_from i n) ≡ n
unfolding up_from
length-up_from i zero = refl
length-up_from i (suc n) = ap suc (length-up_from (suc i) n)

get_or-up_from : (r : ℕ → ℕ) (i n j : ℕ) → j < n → get_or (map r (up_from i n)) j 0 ≡ r (i + j)
unfolding up_from
get_or-up_from r i zero j h = absurd (not-suc-le-zero h)
get_or-up_from r i (suc n) zero h = rw add-zero
get_or-up_from r i (suc n) (suc j) h = let e : i + suc j ≡ suc i + j = omega arith in rw e (get_or-up_from r (suc i) n j (le_of_suc-le-suc h))

module _ (p : ℕ → Bool) (g : Graph) where
  pub order-restrict : node_count (compact_vertices p g) ≡ rank p (node_count g)
  unfolding compact_vertices node_count rank
  order-restrict = rw zero-add at (rw zero-add at (length-keep_at p g.verts 0))

  pub seq-restrict : (v : ℕ) → v < node_count g → p v ≡ true → vertex_sequence (compact_vertices p g) (rank p v) ≡ vertex_sequence g v
  unfolding compact_vertices node_count vertex_sequence rank
  seq-restrict v h t = get_or-keep_at p g.verts 0 v (rank p v) [] (rw zero-add t) (simp zero-add) h

  pub edge-restrict : (e : Edge) → Memᴰ e g.edges → p e.from ≡ true → p e.to ≡ true → Memᴰ (remap_edge p e) (compact_vertices p g).edges
  unfolding compact_vertices
  edge-restrict e m s t = Memᴰ.map (remap_edge p) (mem-keep_if (λ (e : Edge). p e.from && p e.to) m (and-true _ _ s t))

  pub of-edge-restrict : (e : Edge) → Memᴰ e (compact_vertices p g).edges → (f : Edge) × Memᴰ f g.edges
      × (p f.from ≡ true) × (p f.to ≡ true) × (remap_edge p f ≡ e)
  unfolding compact_vertices
  of-edge-restrict e m =
      let r = Memᴰ.of_map (remap_edge p) _ m in
      let k = of-keep_if (λ (e : Edge). p e.from && p e.to) g.edges r.1 in
      let b = and_split _ _ k.1 in
      (r.0, k.0, b.0, b.1, r.2)

  pub link-restrict : (u w : ℕ) → HasEdge g u w → p u ≡ true → p w ≡ true → HasEdge (compact_vertices p g) (rank p u) (rank p w)
  unfolding remap_edge
  link-restrict u w (e, m, a, b) s t = (remap_edge p e, edge-restrict e m (rw a s) (rw b t), ap (rank p) a, ap (rank p) b)

  pub of-link-restrict : (a b : ℕ) → HasEdge (compact_vertices p g) a b → (u : ℕ) × (w : ℕ) × HasEdge g u w × (p u ≡ true) × (p w ≡ true)
      × (rank p u ≡ a) × (rank p w ≡ b)
  unfolding remap_edge
  of-link-restrict a b h =
      let r = of-edge-restrict h.0 h.1 in
      (r.0.from, r.0.to, (r.0, r.1, refl, refl), r.2, r.3, ap (λ (e : Edge). e.from) r.4 ∙ h.2, ap (λ (e : Edge). e.to) r.4 ∙ h.3)

  module _ (bounded : Bounded g) where
    abbrev Same : ℕ → ℕ → Type 0
    Same u v = (u < node_count g) × (p u ≡ true) × (rank p u ≡ v)

    below : (u v : ℕ) → Same u v → v < node_count (compact_vertices p g)
    below u v h = rw (order-restrict, ← h.2) (rank_lt p u (node_count g) h.0 h.1)

    pub bounded-restrict : Bounded (compact_vertices p g)
    unfolding remap_edge
    bounded-restrict e m =
        let r = of-edge-restrict e m in
        let b = bounded r.0 r.1 in
        (below r.0.from _ (b.0, r.2, ap (λ (e : Edge). e.from) r.4), below r.0.to _ (b.1, r.3, ap (λ (e : Edge). e.to) r.4))

    -- the ranks close up as the vertices do
    abbrev pub closed : (ℕ → ℕ) → ℕ → ℕ
    closed r w = get_or (keep_at p 0 (map r (up_from 0 (node_count g)))) w 0

    closed_is : (r : ℕ → ℕ) (u : ℕ) → u < node_count g → p u ≡ true → closed r (rank p u) ≡ r u
    unfolding rank
    closed_is r u h t =
        get_or-keep_at p (map r (up_from 0 (node_count g))) 0 u (rank p u) 0 (rw zero-add t) (simp zero-add)
        (rw (length-map (up_from 0 (node_count g)) r, length-up_from 0 (node_count g)) h)
        ∙ (get_or-up_from r 0 (node_count g) u h ∙ simp zero-add)

    pub ranks-restrict : (r : ℕ → ℕ) → Ranks g r → Ranks (compact_vertices p g) (closed r)
    ranks-restrict r ranks a b l =
        let k = of-link-restrict a b l in
        let e = bounded k.2.0 k.2.1 in
        omega (
          arith,
          closed_is r k.0 (rw k.2.2 at e.0) k.3,
          closed_is r k.1 (rw k.2.3 at e.1) k.4,
          ranks k.0 k.1 k.2,
          ap (closed r) k.5,
          ap (closed r) k.6,
        )

    to : Carries (part_of p g) (net_of (compact_vertices p g)) Same
    to = record {
      same = λ u v h. rw (← h.2) (seq-restrict u h.0 h.1);
      along = λ u v w h e. (rank p w, (rw e.0.3 at (bounded e.0.0 e.0.1).1, e.2, refl), rw (← h.2) (link-restrict u w e.0 e.1 e.2));
      begins = λ u h. (
        rank p u,
        (h.0.0, h.0.1, refl),
        (
          below u (rank p u) (h.0.0, h.0.1, refl),
          λ a l.
              let r = of-link-restrict a (rank p u) l in
              let e = rank-inj p r.1 u r.4 h.0.1 r.6 in
              h.1 r.0 (rw e at r.2, r.3, h.0.1),
        ),
      );
      ends = λ u v h k. (
        below u v h,
        λ b l.
            let r = of-link-restrict v b l in
            let e = rank-inj p r.0 u r.3 h.1 (r.5 ∙ sym h.2) in
            k.1 r.1 (rw e at r.2, h.1, r.4),
      );
    }

    pub place_of : (v : ℕ) → v < node_count (compact_vertices p g) → (u : ℕ) × Same u v
    unfolding compact_vertices node_count rank
    place_of v h =
        let r = place-keep_at p g.verts 0 v h in
        (r.0, (r.1, simp zero-add at r.2, simp zero-add at r.3))

    pub fro : Carries (net_of (compact_vertices p g)) (part_of p g) (λ v u. Same u v)
    fro = record {
      same = λ v u h. rw (← h.2) (sym (seq-restrict u h.0 h.1));
      along = λ v u b h l.
          let r = of-link-restrict v b l in
          let e = rank-inj p r.0 u r.3 h.1 (r.5 ∙ sym h.2) in
          (r.1, (rw r.2.3 at (bounded r.2.0 r.2.1).1, r.4, r.6), (rw e at r.2, h.1, r.4));
      begins = λ v h.
          let r = place_of v h.0 in
          (r.0, r.1, ((r.1.0, r.1.1), λ u l. h.1 (rank p u) (rw r.1.2 at (link-restrict u r.0 l.0 l.1 l.2))));
      ends = λ v u h k. ((h.0, h.1), λ w l. k.1 (rank p w) (rw (← h.2) (link-restrict u w l.0 l.1 l.2)));
    }

    -- the strings of a restricted graph are those of what is kept
    pub reads-restrict : {s : List ℕ} → Reads (part_of p g) s → Reads (net_of (compact_vertices p g)) s
    reads-restrict w = carry to w

    pub of-reads-restrict : {s : List ℕ} → Reads (net_of (compact_vertices p g)) s → Reads (part_of p g) s
    of-reads-restrict w = carry fro w

-- the definition of `Spells` and the walks of the net
module _ (g : Graph) where
  path_steps : (v : ℕ) (vs : List ℕ) → IsPath g v vs → ((w : ℕ) → HasEdge g (last_of v vs) w → ⊥) → Steps (net_of g) (at v) stop (spelled g vs)
  unfolding spelled concat last_of
  path_steps v [] h k = step {p = at v} {q = stop} (h, k) stay
  path_steps v (w ∷ ws) h k = step {p = at v} {q = at w} h.1 (path_steps w ws h.2 k)

  path_first : (v : ℕ) (vs : List ℕ) → IsPath g v vs → v < node_count g
  path_first v [] h = h
  path_first v (w ∷ ws) h = h.0

  pub spells-reads : {s : List ℕ} → Spells g s → Reads (net_of g) s
  unfolding spelled concat
  spells-reads r =
      let v = r.first in
      cast r.spell (step {p = start} {q = at v} (path_first v r.others r.path, r.source) (path_steps v r.others r.path r.sink))

  module _ (bounded : Bounded g) where
    Onward : ℕ → List ℕ → Type 0
    Onward v s = (vs : List ℕ) × IsPath g v vs × ((w : ℕ) → HasEdge g (last_of v vs) w → ⊥) × (spelled g vs ≡ s)

    onward : (v : ℕ) {s : List ℕ} → Steps (net_of g) (at v) stop s → Onward v s
    unfolding Onward spelled concat last_of
    onward v (step {q = start} h w) = absurd h
    onward v (step {q = at u} {s = s} (e, m, a, b) w) =
        let r = onward u w in
        (u ∷ r.0, (rw a at (bounded e m).0, (e, m, a, b), r.1), r.2, ap (λ t. vertex_sequence g u ++ t) r.3)
    onward v (step {q = stop} h stay) = ([], h.0, h.1, refl)
    onward v (step {q = stop} h (step k w)) = absurd k

    pub reads-spells : {s : List ℕ} → Reads (net_of g) s → Spells g s
    unfolding Onward spelled concat
    reads-spells (step {q = start} h w) = absurd h
    reads-spells (step {q = at u} h w) =
        let r = onward u w in
        record { first = u; others = r.0; path = r.1; source = h.1; sink = r.2; spell = ap (λ t. vertex_sequence g u ++ t) r.3 }
    reads-spells (step {q = stop} h w) = absurd h
