-- The change that the slices receive is that of `split_and_update`. Assumes nothing.
use mathlib.Core.Path.{◌≡◌, refl, sym, ap, ◌∙◌, subst}
use mathlib.Core.Bool.{Bool, true, false, not, ◌&&◌, ◌||◌}
use mathlib.Core.List.{List, [], ◌∷◌, ◌++◌, map, map-map, Memᴰ}
use Prim.Native.Nat.{ℕ, ◌+◌, ◌*◌, ◌-◌, ◌≤◌, ◌<◌}
use native.Mathlib.Omega.{arith}
use lib.ListN.{length, get_or, length-append, length-map}
use lib.Dec.{ltb}
use borrow.Author.Tests.{lt-ltb, le-ltb}
use Rattle.defs.specs.Lists.{bit, keep_if}
use Rattle.defs.specs.SeqGraph.{Edge, Graph, Change, node_count, add_or_update_edges, with_additions, apply_change, remove_vertices_by_id}
use Rattle.defs.specs.Rewrites.{MidPlan, mid_plan, has_remaining, non_empty, or_else, is_none, prefix_to_suffix, prefix_to_suffix_from}
use Rattle.defs.specs.Rewrites.{split_and_update_with, split_and_update}
use Rattle.laws.proofs.Walks.{by_test}
use Rattle.laws.proofs.ListLaws.{by_order, keep_if-yes, keep_if-no}
use Rattle.laws.proofs.Edges.{Linked, of-raise_all, order-grown}
use Rattle.tabs.proofs.Tabs.{length-tab}
use Rattle.tabs.proofs.ListTabs.{of-mem-tab}
use Rattle.store.specs.Store.{edge_in, edges_in, seqs_in, graph_in, nums_in, EndsBelow}
use Rattle.store.proofs.VertexLaws.{part-long}
use Rattle.compact.specs.Compact.{Compactable, Below, Removed}
use Rattle.compact.specs.declared.Counts.{Counts}
use Rattle.compact.proofs.CompactLaws.{order-in, ends-mem, mem-ends}
use Rattle.memory.specs.Memory.{graph_of}
use Rattle.memory.specs.declared.Held.{Held}
use Rattle.shared.specs.Shared.{start_at, len_at}
use Rattle.shared.proofs.SharedLoops.{in-pool, in-verts}
use Rattle.split_and_update.specs.Pushed.{filled, len_of, leaves, left_nodes, rest_of}
use Rattle.split_and_update.specs.Ends.{plan_of, plans_of, gone_nodes, nothing, update_edges, update_edges_of, is_cons, Edgeable, EdgesAdded}
use Rattle.split_and_update.specs.Split.{prefix_at, suffix_at, update_verts, Vertable, VertsAdded, places_of, bottom_if, update_change, Splittable, SplitDone}
use Rattle.split_and_update.specs.declared.Places.{Places}
use Rattle.split_and_update.specs.declared.Added.{Added}
use Rattle.split_and_update.proofs.NodeLaws.{map_same, left-kept, gone-kept, node_counts}
use Rattle.split_and_update.proofs.VertLaws.{filled_is}
use Rattle.split_and_update.proofs.PlanLaws.{plan-is, remains, gather-bare, cons-bare, edges-bare}
use Rattle.split_and_update.proofs.EdgeLaws.{split-edges, split_below}

keep_if-map : {A B : Type 0} (p : B → Bool) (f : A → B) (t : A → Bool) (l : List A) → ((x : A) → Memᴰ x l → p (f x) ≡ t x)
    → keep_if p (map f l) ≡ map f (keep_if t l)
keep_if-map p f t [] h = unfold keep_if in refl
keep_if-map {A} {B} p f t (x ∷ l) h =
    let ih = keep_if-map p f t l (λ y k. h y (Memᴰ.tail k)) in
    by_test (t x)
    (λ u. keep_if-yes p (f x) (map f l) (h x (Memᴰ.head refl) ∙ u) ∙ ap (λ (r : List B). f x ∷ r) ih ∙ sym (ap (map f) (keep_if-yes t x l u)))
    (λ u. keep_if-no p (f x) (map f l) (h x (Memᴰ.head refl) ∙ u) ∙ ih ∙ sym (ap (map f) (keep_if-no t x l u)))

bottom-is : (ends : Bool) (b : ℕ) → (ends ≡ false → b ≡ 0) → or_else 0 (bottom_if ends b) ≡ b
unfolding or_else bottom_if
bottom-is true b h = refl
bottom-is false b h = sym (h refl)

ends_is : (ends : Bool) (b : ℕ) → not (is_none (bottom_if ends b)) ≡ ends
unfolding is_none bottom_if
ends_is true b = refl
ends_is false b = refl

or-sum : (x y : ℕ) → 0 < x + y → (ltb 0 x || ltb 0 y) ≡ true
or-sum x y h = by_order x 0 (λ (z : x ≤ 0). rw (le-ltb 0 x z, lt-ltb 0 y (omega arith))) (λ (z : 0 < x). rw (lt-ltb 0 x z))

pub places_is : (top bottom : ℕ) (ends : Bool) (n : ℕ) (a : Added) (c x y : ℕ) {l : Bool} → l ≡ (ltb 0 y && ends)
    → ◌≡◌ {A = Places} (record {
      top = top;
      bottom = bottom;
      prefix = n;
      suffix = a.suffix;
      middles = a.middles;
      prefixed = ltb 0 x;
      suffixed = ltb 0 y;
      linked = l;
      consumed = ltb a.all (a.middles + c);
    }) (places_of top bottom ends n a c x y)
places_is top bottom ends n a c x y q = λ i. record {
  top = top;
  bottom = bottom;
  prefix = n;
  suffix = a.suffix;
  middles = a.middles;
  prefixed = ltb 0 x;
  suffixed = ltb 0 y;
  linked = q i;
  consumed = ltb a.all (a.middles + c);
}

module _ {h : Held} {es vs p heads nodes : List ℕ} {c : ℕ} {mp : List ℕ} {top bottom : ℕ} {ends : Bool} {x y : ℕ} (F :
    Splittable h es vs p heads nodes c mp top bottom ends x y) where
  abbrev n : ℕ
  n = h.n

  abbrev m : ℕ
  m = h.m

  abbrev g : Graph
  g = graph_of h es vs p

  abbrev pre : List ℕ
  pre = prefix_at vs p nodes x

  abbrev suf : List ℕ
  suf = suffix_at vs p nodes y

  abbrev mids : List ℕ
  mids = nums_in c nodes

  abbrev C : Change
  C = update_change g top ends bottom vs p nodes c x y

  abbrev full : ℕ → MidPlan
  full v = plan_of m es heads (rest_of vs p x y v) v

  abbrev left : List ℕ
  left = left_nodes vs (x + y) nodes c

  abbrev gone : List ℕ
  gone = gone_nodes vs (x + y) nodes c

  some : 0 < c
  some = omega (arith, F.parts.some)

  inside : (i : ℕ) → i < c → start_at vs nodes i + len_at vs nodes i ≤ length p
  inside = in-pool F.parts

  in₁ : start_at vs nodes 0 + x ≤ length p
  in₁ = omega (arith, inside 0 some, F.long 0 some)

  in₂ : start_at vs nodes 0 + len_at vs nodes 0 - y + y ≤ length p
  in₂ = omega (arith, inside 0 some, F.long 0 some)

  plan-at : (v : ℕ) → Memᴰ v mids → mid_plan g (length pre) (length suf) v ≡ full v
  plan-at v k =
      let r = of-mem-tab c (λ (i : ℕ). get_or nodes i 0) k in
      (λ i. mid_plan g (part-long p (start_at vs nodes 0) x in₁ i) (part-long p (start_at vs nodes 0 + len_at vs nodes 0 - y) y in₂ i) v)
      ∙ rw r.2 (plan-is h.k.0 n m es vs p heads (get_or nodes r.0 0) (F.middles r.0 r.1) x y (F.parts.below r.0 r.1)
      (inside r.0 r.1) (F.long r.0 r.1))

  remains-at : (v : ℕ) → Memᴰ v mids → has_remaining (full v) ≡ leaves vs (x + y) v
  remains-at v k =
      let r = of-mem-tab c (λ (i : ℕ). get_or nodes i 0) k in
      rw r.2 (remains h.k.0 n m es vs p heads (get_or nodes r.0 0) (F.middles r.0 r.1) x y (F.parts.below r.0 r.1)
      (inside r.0 r.1) (F.long r.0 r.1))

  plans-are : map (mid_plan g (length pre) (length suf)) mids ≡ map full mids
  plans-are = map_same (mid_plan g (length pre) (length suf)) full mids plan-at

  lefts-are : keep_if has_remaining (map (mid_plan g (length pre) (length suf)) mids) ≡ map full left
  lefts-are = ap (keep_if has_remaining) plans-are ∙ keep_if-map has_remaining full (leaves vs (x + y)) mids remains-at

  others-are : keep_if (λ (q : MidPlan). not (has_remaining q)) (map (mid_plan g (length pre) (length suf)) mids) ≡ map full gone
  others-are = ap (keep_if (λ (q : MidPlan). not (has_remaining q))) plans-are
      ∙ keep_if-map (λ (q : MidPlan). not (has_remaining q)) full (λ (v : ℕ). not (leaves vs (x + y) v)) mids (λ v k. ap not (remains-at v k))

  abbrev D : Change
  D = split_and_update_with (non_empty pre) (non_empty suf) n top (bottom_if ends bottom) (map full left) (prefix_to_suffix (map full gone)) pre suf mids

  change-is : C ≡ D
  unfolding split_and_update
  change-is = λ i. split_and_update_with (non_empty pre) (non_empty suf) (order-in h.k.0 n m es vs p i) top (bottom_if ends bottom)
      (lefts-are i) (prefix_to_suffix (others-are i)) pre suf mids

  gone-is : C.gone ≡ mids
  unfolding split_and_update_with
  gone-is = ap (λ (z : Change). z.gone) change-is

  verts-are : C.verts ≡ update_verts vs p nodes c x y
  unfolding split_and_update_with
  verts-are = ap (λ (z : Change). z.verts) change-is ∙ (λ i. filled pre ++ (filled suf ++ map-map (λ (q : MidPlan). q.remaining) full left i))

  old : (u v : ℕ) → Linked (edges_in m es) u v → (u < n) × (v < n)
  old u v (e, k, a, b) = let z = ends-mem F.bounds e k in (omega (arith, z.0), omega (arith, z.1))

  bottom-old : or_else 0 (bottom_if ends bottom) < n
  bottom-old = omega (arith, F.bottom-old, bottom-is ends bottom F.no-bottom)

  any : (non_empty pre || non_empty suf) ≡ true
  any = (λ i. filled_is p (start_at vs nodes 0) x in₁ i || filled_is p (start_at vs nodes 0 + len_at vs nodes 0 - y) y in₂ i) ∙ or-sum x y F.some

  verts-count : node_count (with_additions C g) ≡ n + length (update_verts vs p nodes c x y)
  verts-count = order-grown g C ∙ (λ i. order-in h.k.0 n m es vs p i + length (verts-are i))

  pub vertable : Vertable n vs p nodes c x y
  vertable = record {
    parts = F.parts;
    small = λ i b. omega (arith, F.within.at (get_or nodes i 0) (F.parts.below i b), F.used-small);
    long = F.long;
    room = omega (arith, F.vs-room, verts-count);
  }

  module _ {a : Added} {vs' : List ℕ} (A : VertsAdded n vs p nodes c x y a vs') where
    all-is : a.all ≡ node_count (with_additions C g)
    all-is = A.is.count ∙ sym verts-count

    pub placeable : (n < 4294967296) × ((a.suffix < 4294967296) × (a.middles + c < 4294967296))
    placeable = (
      omega (arith, F.small, all-is, A.all, A.middles, A.suffix),
      (omega (arith, F.small, all-is, A.all, A.middles), omega (arith, F.small, all-is, A.all)),
    )

    abbrev w : Places
    w = places_of top bottom ends n a c x y

    suffix-is : bit (non_empty pre) + n ≡ a.suffix
    suffix-is = (λ i. bit (filled_is p (start_at vs nodes 0) x in₁ i) + n) ∙ sym A.suffix

    middles-are : bit (non_empty suf) + (bit (non_empty pre) + n) ≡ a.middles
    middles-are = (λ i. bit (filled_is p (start_at vs nodes 0 + len_at vs nodes 0 - y) y in₂ i) + suffix-is i) ∙ sym A.middles

    edges_are : add_or_update_edges C.edges (edges_in m es) ≡ edges_in m es ++ update_edges_of m es vs heads nodes c (x + y) w
    edges_are =
        ap (λ (z : Change). add_or_update_edges z.edges (edges_in m es)) change-is
        ∙ split-edges (non_empty pre) (non_empty suf) n top (bottom_if ends bottom) (map full left) (map full gone) pre suf mids (edges_in m es)
        F.top-old bottom-old old any
        ∙ (λ i. edges_in m es ++ update_edges (places i) (map full left) (gather-bare m es heads (rest_of vs p x y) nothing gone i))
        ∙ ap (λ (l : List Edge). edges_in m es ++ l) (edges-bare m es heads (rest_of vs p x y) w left (prefix_to_suffix_from nothing (plans_of m es heads gone)))
      where
        places : ◌≡◌ {A = Places} (record {
          top = top;
          bottom = or_else 0 (bottom_if ends bottom);
          prefix = n;
          suffix = bit (non_empty pre)
              + n;
          middles = bit (non_empty suf) + (bit (non_empty pre) + n);
          prefixed = non_empty pre;
          suffixed = non_empty suf;
          linked =
              non_empty suf && not (is_none (bottom_if ends bottom));
          consumed = is_cons (map full gone);
        }) w
        places = λ i. record {
          top = top;
          bottom = bottom-is ends bottom F.no-bottom i;
          prefix = n;
          suffix = suffix-is i;
          middles = middles-are i;
          prefixed = filled_is p (start_at vs nodes 0) x in₁ i;
          suffixed = filled_is p (start_at vs nodes 0 + len_at vs nodes 0 - y) y in₂ i;
          linked = filled_is p (start_at vs nodes 0 + len_at vs nodes 0 - y) y in₂ i && ends_is ends bottom i;
          consumed = cons-bare m es heads (rest_of vs p x y) gone a.all (a.middles + c) (omega (arith, A.all, node_counts vs nodes (x + y) c)) i;
        }

    lens : (i : ℕ) → i < c → len_of vs' (get_or nodes i 0) ≡ len_of vs (get_or nodes i 0)
    lens i b = A.is.same (2 * get_or nodes i 0 + 1) (omega (arith, F.parts.below i b))

    news-same : update_edges_of m es vs' heads nodes c (x + y) w ≡ update_edges_of m es vs heads nodes c (x + y) w
    news-same = λ i. update_edges w (plans_of m es heads (left-kept vs vs' nodes (x + y) c lens i))
        (prefix_to_suffix_from nothing (plans_of m es heads (gone-kept vs vs' nodes (x + y) c lens i)))

    grown-edges : (with_additions C g).edges ≡ edges_in m es ++ update_edges_of m es vs' heads nodes c (x + y) w
    unfolding with_additions
    grown-edges = edges_are ∙ ap (λ (l : List Edge). edges_in m es ++ l) (sym news-same)

    edges-count : length (with_additions C g).edges ≡ m + length (update_edges_of m es vs' heads nodes c (x + y) w)
    edges-count = ap length grown-edges ∙ length-append (edges_in m es) (update_edges_of m es vs' heads nodes c (x + y) w)
        ∙ ap (λ (z : ℕ). z + length (update_edges_of m es vs' heads nodes c (x + y) w)) (length-tab m (edge_in es))

    pub edgeable : (v : Places) → v ≡ w → Edgeable m es vs' heads nodes c (x + y) v
    edgeable v q = rw q (record {
      mids = record {
        es-room = omega (arith, F.es-room, edges-count);
        nodes-room = F.parts.room;
        in-vs = λ i b. omega (arith, in-verts F.parts i b, A.is.len);
        in-heads = λ i b. omega (arith, F.parts.below i b, F.heads-room);
        entered = λ i b. (F.middles i b).first;
      };
      small = omega (arith, F.small, all-is, A.all);
      room = omega (arith, F.es-room, edges-count);
    })

    module _ {d : ℕ} {es' : List ℕ} (v : Places) (q : v ≡ w) (E : EdgesAdded m es vs' heads nodes c (x + y) v d es') where
      E' : EdgesAdded m es vs' heads nodes c (x + y) w d es'
      E' = rw q at E

      d-is : d ≡ length (with_additions C g).edges
      d-is = E'.is.count ∙ sym edges-count

      edges-now : edges_in d es' ≡ add_or_update_edges C.edges (edges_in m es)
      edges-now = E'.is.is ∙ sym (edges_are ∙ ap (λ (l : List Edge). edges_in m es ++ l) (sym news-same))

      now-is : graph_in h.k.0 a.all d es' vs' p ≡ with_additions C g
      unfolding with_additions
      now-is = λ i. record { k = h.k.0; verts = (A.is.is ∙ ap (λ (l : List (List ℕ)). seqs_in n vs p ++ l) (sym verts-are)) i; edges = edges-now i }

      below : EndsBelow a.all d es'
      below = mem-ends a.all d es' (λ e k.
          let l : Linked (add_or_update_edges C.edges (edges_in m es)) e.from e.to = (e, subst (Memᴰ e) edges-now k, refl, refl) in
          of-raise_all C.edges (edges_in m es) e.from e.to l
          (λ o. let z = old e.from e.to o in (omega (arith, z.0, A.all, A.middles, A.suffix), omega (arith, z.1, A.all, A.middles, A.suffix)))
          (λ o. let z = split_below (non_empty pre) (non_empty suf) n top (bottom_if ends bottom) (map full left) (map full gone) pre suf mids
          (edges_in m es) F.top-old bottom-old old any e.from e.to
          (subst (λ (t : Change). Linked t.edges e.from e.to) change-is o) in
          (omega (arith, z.0, A.all, middles-are, length-map left full), omega (arith, z.1, A.all, middles-are, length-map left full))))

      pub compactable : Compactable a.all d es' vs' mp × Below nodes c a.all
      compactable = (
        record {
          es-room = omega (arith, F.es-room, d-is, E'.is.len);
          vs-room = omega (arith, F.vs-room, all-is, A.is.len);
          mp-room = omega (arith, F.mp-room, all-is);
          small = omega (arith, F.small, all-is);
          ends = below;
        },
        record { room = F.parts.room; at = λ i b. omega (arith, F.parts.below i b, A.all, A.middles, A.suffix) },
      )

      pub split_done : {r : Counts} {es'' vs'' mp'' : List ℕ} → Removed a.all d es' vs' mids r es'' vs'' mp''
          → SplitDone h es vs p nodes c top bottom ends x y (record { k = h.k; n = r.n; m = r.m; used = h.used }) es'' vs''
      unfolding apply_change
      split_done R = record {
        is = R.is h.k.0 p ∙ (λ i. remove_vertices_by_id (sym gone-is i) (now-is i));
        used = refl;
        within = R.within h.used (A.within h.used F.within);
      }
