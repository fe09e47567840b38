-- Cleanup: when it reports some variation, the answer spells what the graph of the choice spells from the chosen source to the chosen sink.
-- Assumes nothing.
use Prim.Native.Nat.{ℕ, zero, suc, ◌+◌, ◌<◌}
use native.Mathlib.Omega.{arith}
use mathlib.Core.Path.{◌≡◌, refl, sym, ap, ◌∙◌}
use mathlib.Core.Logic.{◌↔◌}
use mathlib.Core.Bool.{Bool, true, false}
use mathlib.Core.Option.{Option, none, some, some-injective}
use mathlib.Core.List.Memᴰ
use mathlib.Core.List.{List, [], ◌∷◌, ◌++◌, append-nil, Memᴰ}
use lib.ListN.{length, get_or}
use Rattle.defs.specs.Lists.{elem_of, concat, up_from, first_of}
use Rattle.defs.specs.SeqGraph.{Edge, Graph, node_count, vertex_sequence, keeps, compact_vertices, remove_vertices_by_id}
use Rattle.defs.specs.Zip.{Work, zip_linear_chains, last_of}
use Rattle.defs.specs.Simplify.{simplify_graph_full, sequence_bytes, empty_vertices, min_tail_suffix_len}
use Rattle.defs.specs.Cleanup.{before_choice, remove_singleton_orphan_vertices, reference_source_vertex, reference_sink_vertex, singleton_orphans}
use Rattle.defs.specs.Cleanup.{remove_orphans, either, forward, reached, remove_vertices_not_connected_to_ref, just_reference, some_variation}
use Rattle.defs.specs.Cleanup.{choice_graph, remove_paths_not_connected_to_ref, with_dummy_vertex, after_choice, cleanup_seq_graph}
use Rattle.defs.specs.Strings.{HasEdge, IsPath, Spells, SpellsBetween, spelled}
use Rattle.laws.proofs.Walks.{by_test}
use Rattle.laws.proofs.Nets.{bounded-restrict, closed, ranks-restrict}
use Rattle.laws.proofs.Sound.{Sound}
use Rattle.laws.proofs.Counts.{single-renumber}
use Rattle.laws.proofs.Cycles.{below-up_from}
use Rattle.laws.proofs.Fuel.{Good}
use Rattle.laws.proofs.Whole.{by_option, by_list, no-some, simplify-spells}
use Rattle.laws.proofs.Measures.{weight, order-weight}
use Rattle.laws.proofs.Bound.{begun, zip-paid, simplify-tame}
use Rattle.laws.proofs.Between.{between-sound, between-spells, unreached-empty}

-- the invariants, up to the graph of the choice
pub restrict-good : (p : ℕ → Bool) (g : Graph) → Good g → Good (compact_vertices p g)
restrict-good p g (s, o) = (
  record {
    bounded = bounded-restrict p g s.bounded;
    rank = closed p g s.bounded s.rank;
    ranks =
        ranks-restrict p g s.bounded s.rank s.ranks;
  },
  unfold compact_vertices in (single-renumber p g.edges o),
)

orphans-zero : (g : Graph) → remove_orphans zero g ≡ g
unfolding remove_orphans
orphans-zero g = refl

pub orphans-nil : (fuel : ℕ) (g : Graph) → singleton_orphans g ≡ [] → remove_orphans (suc fuel) g ≡ g
unfolding remove_orphans
orphans-nil fuel g t = rw (t, remove_orphans)

pub orphans-cons : (fuel : ℕ) (g : Graph) (v : ℕ) (vs : List ℕ) → singleton_orphans g ≡ v ∷ vs → remove_orphans (suc fuel) g
    ≡ remove_orphans fuel (remove_vertices_by_id (v ∷ vs) g)
unfolding remove_orphans
orphans-cons fuel g v vs t = rw (t, remove_orphans)

orphans-turn : (P : Graph → Type 0) → ((p : ℕ → Bool) (g : Graph) → P g → P (compact_vertices p g)) → (fuel : ℕ) (g : Graph) → P g
    → ((a : Graph) → P a → P (remove_orphans fuel a)) → P (remove_orphans (suc fuel) g)
unfolding remove_vertices_by_id
orphans-turn P k fuel g h ih = by_list (singleton_orphans g) (λ t. rw (orphans-nil fuel g t) h) (λ v vs t.
    rw (orphans-cons fuel g v vs t) (ih (remove_vertices_by_id (v ∷ vs) g) (k (keeps (v ∷ vs)) g h)))

-- what restrictions keep, the removal of orphans keeps
pub orphans-keep : (P : Graph → Type 0) → ((p : ℕ → Bool) (g : Graph) → P g → P (compact_vertices p g)) → (fuel : ℕ) (g : Graph) → P g → P (remove_orphans fuel g)
orphans-keep P k zero g h = rw (orphans-zero g) h
orphans-keep P k (suc fuel) g h = orphans-turn P k fuel g h (λ a p. orphans-keep P k fuel a p)

pub connected-keeps : (P : Graph → Type 0) → ((p : ℕ → Bool) (g : Graph) → P g → P (compact_vertices p g)) → (g : Graph) → P g
    → P (remove_vertices_not_connected_to_ref g)
unfolding remove_vertices_not_connected_to_ref
connected-keeps P k g h = by_option (reference_source_vertex g) (λ t. rw (t, remove_vertices_not_connected_to_ref) h) (λ s t.
    rw (t, remove_vertices_not_connected_to_ref) (k (λ v. elem_of v (reached either g s)) g h))

pub choice-good : (g : Graph) → Good g → Good (choice_graph g)
unfolding choice_graph before_choice remove_singleton_orphan_vertices
choice-good g h =
    let g₁ = (zip_linear_chains (begun g)).graph in
    let g₂ = remove_orphans (suc (node_count g₁)) g₁ in
    (simplify-tame min_tail_suffix_len (omega arith) (remove_vertices_not_connected_to_ref g₂)
    (connected-keeps Good restrict-good g₂ (orphans-keep Good restrict-good (suc (node_count g₁)) g₁
    (zip-paid (begun g) h).tame.good))).good

-- the choice
first-in : (p : ℕ → Bool) (l : List ℕ) (v : ℕ) → first_of p l ≡ some v → Memᴰ v l
unfolding first_of
first-in p [] v e = no-some refl e
first-in p (x ∷ l) v e = by_test (p x)
    (λ t. Memᴰ.head (sym (some-injective x v (rw (t, first_of) at e))))
    (λ t. Memᴰ.tail (first-in p l v (rw (t, first_of) at e)))

pub source_in : (g : Graph) (v : ℕ) → reference_source_vertex g ≡ some v → v < node_count g
unfolding reference_source_vertex
source_in g v e = omega (arith, below-up_from 0 (node_count g) v (first-in _ (up_from 0 (node_count g)) v e))

pub sink-in : (g : Graph) (v : ℕ) → reference_sink_vertex g ≡ some v → v < node_count g
unfolding reference_sink_vertex
sink-in g v e = omega (arith, below-up_from 0 (node_count g) v (first-in _ (up_from 0 (node_count g)) v e))

spells-as : {g : Graph} {x y : List ℕ} → x ≡ y → Spells g x → Spells g y
spells-as e w = rw e at w

-- an empty second vertex keeps the string of the first
module _ (g : Graph) (sound : Sound g) (v : List ℕ) (is : g.verts ≡ v ∷ []) where
  abbrev pub dummy : Edge
  dummy = record { from = 0; to = 1; support = 0; is_ref = true; capped = false }

  abbrev pub H : Graph
  H = record { k = g.k; verts = v ∷ [] ∷ []; edges = dummy ∷ [] }

  one : node_count g ≡ 1
  unfolding node_count
  one = ap length is

  no_edge : (a b : ℕ) → HasEdge g a b → ⊥
  no_edge a b (e, m, p, q) =
      let h = sound.bounded e m in
      let i : e.from ≡ e.to = omega (arith, one, h.0, h.1) in
      omega (arith, sound.ranks e.from e.to (e, m, refl, refl), ap sound.rank i)

  seq-zero : vertex_sequence g 0 ≡ v
  unfolding vertex_sequence
  seq-zero = ap (λ l. get_or l 0 []) is

  says : {x : List ℕ} (f : ℕ) (os : List ℕ) → IsPath g f os → spelled g (f ∷ os) ≡ x → v ≡ x
  unfolding spelled concat
  says f [] h e = let i : f ≡ 0 = omega (arith, one, h) in sym (append-nil v)
      ∙ (ap (λ z. z ++ []) (sym seq-zero) ∙ (ap (λ z. vertex_sequence g z ++ []) (sym i) ∙ e))
  says f (w ∷ ws) h e = absurd (no_edge f w h.1)

  spells-v : Spells g v
  unfolding spelled concat last_of
  spells-v = record {
    first = 0;
    others = [];
    path = omega (arith, one);
    source = λ u l. no_edge u 0 l;
    sink = λ w l. no_edge 0 w l;
    spell =
        ap (λ z. z ++ []) seq-zero ∙ append-nil v;
  }

  pub ends_of : (a b : ℕ) → HasEdge H a b → (a ≡ 0) × (b ≡ 1)
  ends_of a b (e, m, p, q) = let i = Memᴰ.eq_of_singleton m in (sym p ∙ ap (λ (x : Edge). x.from) i, sym q ∙ ap (λ (x : Edge). x.to) i)

  the-edge : HasEdge H 0 1
  the-edge = (dummy, Memᴰ.head refl, refl, refl)

  spells-H : Spells H v
  unfolding spelled concat last_of node_count vertex_sequence
  spells-H = record {
    first = 0;
    others = 1 ∷ [];
    path = (omega arith, the-edge, omega arith);
    source = λ u l. omega (arith, (ends_of u 0 l).1);
    sink = λ w l. omega (arith, (ends_of 1 w l).0);
    spell = append-nil v;
  }

  says-H : {x : List ℕ} (f : ℕ) (os : List ℕ) → IsPath H f os → ((u : ℕ) → HasEdge H u f → ⊥) → ((w : ℕ) → HasEdge H (last_of f os) w → ⊥)
      → spelled H (f ∷ os) ≡ x → v ≡ x
  unfolding spelled concat last_of node_count vertex_sequence
  says-H zero [] h a b e = absurd (b 1 the-edge)
  says-H (suc zero) [] h a b e = absurd (a 0 the-edge)
  says-H (suc (suc n)) [] h a b e = absurd (omega arith)
  says-H {x} f (w ∷ []) h a b e = let i = ends_of f w h.1 in sym (append-nil v) ∙ (rw (i.0, i.1) at e)
  says-H f (w ∷ u ∷ us) h a b e = absurd (omega (arith, (ends_of f w h.1).1, (ends_of w u h.2.1).0))

  two-spells : {x : List ℕ} → Spells g x ↔ Spells H x
  two-spells = (
    λ w. spells-as (says w.first w.others w.path w.spell) spells-H,
    λ w. spells-as (says-H w.first w.others w.path w.source w.sink w.spell) spells-v,
  )

sink-big : (k : ℕ) (vs : List (List ℕ)) (es : List Edge) → (length vs ≡ 1 → ⊥) → with_dummy_vertex record { k = k; verts = vs; edges = es }
    ≡ record { k = k; verts = vs; edges = es }
unfolding with_dummy_vertex
sink-big k [] es n = refl
sink-big k (v ∷ []) es n = absurd (n refl)
sink-big k (v ∷ w ∷ ws) es n = refl

pub sink-nil : (g : Graph) → g.verts ≡ [] → with_dummy_vertex g ≡ g
sink-nil g t = sink-big g.k g.verts g.edges (λ e. omega (arith, ap length t))

pub sink-one : (g : Graph) (v : List ℕ) → g.verts ≡ v ∷ [] → with_dummy_vertex g
    ≡ record { k = g.k; verts = v ∷ [] ∷ []; edges = record { from = 0; to = 1; support = 0; is_ref = true; capped = false } ∷ [] }
unfolding with_dummy_vertex
sink-one g v t = rw (t, with_dummy_vertex)

pub sink-more : (g : Graph) (v w : List ℕ) (ws : List (List ℕ)) → g.verts ≡ v ∷ w ∷ ws → with_dummy_vertex g ≡ g
sink-more g v w ws t = sink-big g.k g.verts g.edges (λ e. omega (arith, ap length t))

same-spells : {g : Graph} {x : List ℕ} → Spells g x ↔ Spells g x
same-spells = (λ w. w, λ w. w)

pub with_sink-spells : (g : Graph) → Sound g → (x : List ℕ) → Spells g x ↔ Spells (with_dummy_vertex g) x
with_sink-spells g sound x = by_list g.verts
    (λ t. rw (sink-nil g t) same-spells)
    (λ v vs t. by_list vs
    (λ u. let i = t ∙ ap (λ l. v ∷ l) u in rw (sink-one g v i) (two-spells g sound v i))
    (λ w ws u. rw (sink-more g v w ws (t ∙ ap (λ l. v ∷ l) u)) same-spells))

-- the whole of cleanup
pub record Choice (h : Graph) : Type 0 where
  pub source : ℕ
  pub sink : ℕ
  pub is_source : reference_source_vertex h ≡ some source
  pub is_sink : reference_sink_vertex h ≡ some sink

finish-chosen : (h : Work) (a b : Option ℕ) → (after_choice h a b).status ≡ some_variation → (s : ℕ) × (t : ℕ) × (a ≡ some s) × (b ≡ some t)
unfolding after_choice
finish-chosen h none b e = absurd (omega (arith, bad))
  where
    bad : ◌≡◌ {A = ℕ} 0 1
    bad = cc
finish-chosen h (some s) none e = absurd (omega (arith, bad))
  where
    bad : ◌≡◌ {A = ℕ} 0 1
    bad = cc
finish-chosen h (some s) (some t) e = (s, t, refl, refl)

finish-is : (h : Work) (a b : Option ℕ) (s t : ℕ) → a ≡ some s → b ≡ some t → (after_choice h a b).graph
    ≡ with_dummy_vertex (simplify_graph_full min_tail_suffix_len (remove_paths_not_connected_to_ref h.graph s t)).graph
unfolding after_choice
finish-is h a b s t p q = rw (p, q)

finish-plain : (h : Work) (a b : Option ℕ) → (after_choice h a b).status ≡ just_reference → (after_choice h a b).graph ≡ h.graph
unfolding after_choice
finish-plain h none b e = refl
finish-plain h (some s) none e = refl
finish-plain h (some s) (some t) e = absurd (omega (arith, bad))
  where
    bad : ◌≡◌ {A = ℕ} 0 1
    bad = cc

pub chosen : (g : Graph) → (cleanup_seq_graph g).status ≡ some_variation → Choice (choice_graph g)
unfolding cleanup_seq_graph choice_graph
chosen g e = let z = finish-chosen (before_choice g) (reference_source_vertex (choice_graph g)) (reference_sink_vertex (choice_graph g)) e in
    record { source = z.0; sink = z.1; is_source = z.2; is_sink = z.3 }

-- with status 1 the answer is the graph of the choice
pub cleanup-plain : (g : Graph) → (cleanup_seq_graph g).status ≡ just_reference → (cleanup_seq_graph g).graph ≡ choice_graph g
unfolding cleanup_seq_graph choice_graph
cleanup-plain g e = finish-plain (before_choice g) (reference_source_vertex (choice_graph g)) (reference_sink_vertex (choice_graph g)) e

pub cleanup-is : (g : Graph) (c : Choice (choice_graph g)) → (cleanup_seq_graph g).graph
    ≡ with_dummy_vertex (simplify_graph_full min_tail_suffix_len (remove_paths_not_connected_to_ref (choice_graph g) c.source c.sink)).graph
unfolding cleanup_seq_graph choice_graph
cleanup-is g c = finish-is (before_choice g) (reference_source_vertex (choice_graph g)) (reference_sink_vertex (choice_graph g)) c.source
    c.sink c.is_source c.is_sink

-- THE STRINGS, for any graph in which a choice is made
pub finished-spells : (h : Graph) → Good h → (c : Choice h) (x : List ℕ)
    → Spells (with_dummy_vertex (simplify_graph_full min_tail_suffix_len (remove_paths_not_connected_to_ref h c.source c.sink)).graph) x
    ↔ SpellsBetween h c.source c.sink x
finished-spells h (z, o) c x =
    let s = c.source in
    let t = c.sink in
    let si = source_in h s c.is_source in
    let ti = sink-in h t c.is_sink in
    let m = remove_paths_not_connected_to_ref h s t in
    let ms = between-sound h z.bounded z.rank z.ranks s t si ti in
    let b = between-spells h z.bounded z.rank z.ranks s t si ti {x = x} in
    let d = simplify-spells m ms x in
    let e = with_sink-spells (simplify_graph_full min_tail_suffix_len m).graph (Rattle.laws.proofs.Whole.simplify-keeps m ms).sound x in
    (λ w. b.0 (d.1 (e.1 w)), λ a. e.0 (d.0 (b.1 a)))

pub cleanup-spells : (g : Graph) → Good g → (c : Choice (choice_graph g)) (x : List ℕ) → Spells (cleanup_seq_graph g).graph x
    ↔ SpellsBetween (choice_graph g) c.source c.sink x
cleanup-spells g h c x = rw (cleanup-is g c) (finished-spells (choice_graph g) (choice-good g h) c x)

pub cleanup-varies : (g : Graph) → Good g → (cleanup_seq_graph g).status ≡ some_variation → (c : Choice (choice_graph g))
    × ((x : List ℕ) → Spells (cleanup_seq_graph g).graph x ↔ SpellsBetween (choice_graph g) c.source c.sink x)
cleanup-varies g h e = (chosen g e, cleanup-spells g h (chosen g e))

-- a sink that can't be reached: the answer is empty
no-weight : (g : Graph) → node_count g ≡ 0 → weight g ≡ 0
unfolding weight node_count sequence_bytes empty_vertices
no-weight g e = go g.verts e
  where
    go : (l : List (List ℕ)) → length l ≡ 0 → sequence_bytes l + empty_vertices l ≡ 0
    go [] e = refl
    go (x ∷ l) e = absurd (omega arith)

sink-empty : (g : Graph) → node_count g ≡ 0 → node_count (with_dummy_vertex g) ≡ 0
unfolding node_count
sink-empty g e = by_list g.verts (λ t. rw (sink-nil g t) e) (λ v vs t. absurd (omega (arith, ap length t)))

pub between-good : (h : Graph) (s t : ℕ) → Good h → Good (remove_paths_not_connected_to_ref h s t)
unfolding remove_paths_not_connected_to_ref
between-good h s t k = restrict-good _ h k

pub cleanup-empty : (g : Graph) → Good g → (c : Choice (choice_graph g)) → elem_of c.sink (reached forward (choice_graph g) c.source)
    ≡ false → node_count (cleanup_seq_graph g).graph ≡ 0
cleanup-empty g h c e = rw (cleanup-is g c)
    (let k = choice-good g h in
    let z = k.0 in
    let m = remove_paths_not_connected_to_ref (choice_graph g) c.source c.sink in
    let t = simplify-tame min_tail_suffix_len (omega arith) m (between-good (choice_graph g) c.source c.sink k) in
    let o = unreached-empty (choice_graph g) z.bounded z.rank z.ranks c.source c.sink (source_in _ _ c.is_source) (sink-in _ _ c.is_sink) e in
    sink-empty (simplify_graph_full min_tail_suffix_len m).graph (omega (arith, t.light, no-weight m o, order-weight (simplify_graph_full min_tail_suffix_len m).graph)))
