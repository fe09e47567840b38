-- The steps of a merge make `merge_change`, and there is room for them. Assumes nothing.
use mathlib.Core.Path.{◌≡◌, refl, sym, ap, ◌∙◌, subst}
use mathlib.Core.Bool.{true}
use mathlib.Core.Option.{some}
use mathlib.Core.List.Memᴰ
use mathlib.Core.List.{List, [], ◌∷◌, ◌++◌, map, map-append, Memᴰ}
use mathlib.Core.Logic.{⊎_elim}
use Prim.{tt}
use Prim.Native.Nat.{ℕ, ◌+◌, ◌*◌, ◌-◌, ◌≤◌, ◌<◌}
use native.Mathlib.Omega.{arith}
use lib.ListN.{length, get_or, set, length-set}
use lib.Seq.{get_or-set_same, get_or-set_other}
use lib.Dec.{eqb}
use borrow.Author.Tests.{eqb-true, eqb-false}
use Rattle.defs.specs.Lists.{concat, head_or, given}
use Rattle.defs.specs.SeqGraph.{Edge, Graph, Change, node_count, vertex_sequence, edges_into, edges_from, incoming_nodes, keeps, new_edge, edge_data}
use Rattle.defs.specs.SeqGraph.{remove_vertices_by_id, with_additions, apply_change, add_or_update_edges}
use Rattle.defs.specs.Rewrites.{merges_suffices, merge_change, redirected_to, redirected_from, try_merge_common_suffices}
use Rattle.laws.proofs.Walks.{by_test}
use Rattle.laws.proofs.ListLaws.{by_order}
use Rattle.laws.proofs.Edges.{Linked, of-edges_into, of-edges_from, order-grown}
use Rattle.laws.proofs.Counts.{total, total_kept}
use Rattle.laws.proofs.Changes.{edges-grown}
use Rattle.laws.proofs.Merge as L
use Rattle.laws.proofs.Fuel.{Good}
use Rattle.laws.proofs.Measures.{load, Tame, bytes-is, merge-tame}
use Rattle.tabs.proofs.Tabs.{length-tab, get_or-tab, tab-snoc, tab-ext}
use Rattle.tabs.proofs.ListTabs.{mem-tab, head-tab}
use Rattle.store.specs.Store.{edge_in, edges_in, seq_in, seqs_in, graph_in, nums_in, Within, put_vertex}
use Rattle.store.proofs.VertexLaws.{part-long, seq-at}
use Rattle.compact.specs.Compact.{Compactable, Removed}
use Rattle.compact.specs.declared.Counts.{Counts}
use Rattle.compact.proofs.CompactLaws.{order-in, mem-ends}
use Rattle.index.specs.Index.{Indexed}
use Rattle.pool.specs.Pool.{bytes_in, Packable, Packed}
use Rattle.pool.proofs.PoolLaws.{part_same, packed-seqs, packed-within}
use Rattle.merge_linear_chain.proofs.JoinLaws.{held_bytes}
use Rattle.memory.specs.Memory.{graph_of, vertex_room, edge_room, Room, Fit, Holds}
use Rattle.memory.specs.declared.Held.{Held}
use Rattle.memory.proofs.RoomLaws.{fit-vertices, fit-bytes, fit-tame, held-vertices, held-edges, held-pool}
use Rattle.redirect.proofs.SameLaws.{into-all, from_all}
use Rattle.merge_suffices.specs.Merge.{MergeWritable, MergeWritten, new_into, merge_edges, MergeEdgesReady, MergeEdgesDone, Mergeable, Merged}

map-concat : {A B : Type 0} (f : A → B) (h : ℕ → List A) (l : List ℕ) → concat (map (λ (v : ℕ). map f (h v)) l) ≡ map f (concat (map h l))
unfolding concat
map-concat f h [] = refl
map-concat {A} {B} f h (v ∷ l) = ap (λ (x : List B). map f (h v) ++ x) (map-concat f h l) ∙ sym (map-append f (h v) (concat (map h l)))

module _ {h : Held} {es vs p heads nexts nodes mp : List ℕ} {c bottom : ℕ}
    (R : Room es vs p heads nexts nodes mp) (H : Holds h es vs p heads nexts) (M : Mergeable h es vs p nodes c bottom) where
  abbrev g : Graph
  g = graph_of h es vs p

  abbrev good : Good g
  good = H.fit.good

  abbrev prevs : List ℕ
  prevs = incoming_nodes g bottom

  abbrev first : ℕ
  first = get_or nodes 0 0

  abbrev change : Change
  change = merge_change g bottom prevs

  order : node_count g ≡ h.n
  order = order-in h.k.0 h.n h.m es vs p

  inside : bottom < node_count g
  inside = omega (arith, order, M.below)

  n_room : h.n ≤ vertex_room heads
  n_room = held-vertices H

  some-prev : 0 < c
  some-prev = omega (
    arith,
    (L.ok-parts g bottom good.0.bounded good.0.rank good.0.ranks inside M.ok).0,
    ap length M.are,
    length-tab c (λ (i : ℕ). get_or nodes i 0),
  )

  pub first_below : first < h.n
  first_below = M.prevs.at 0 some-prev

  head-is : head_or 0 prevs ≡ first
  head-is = ap (head_or 0) (sym M.are) ∙ head-tab c (λ (i : ℕ). get_or nodes i 0) some-prev

  first-apart : first ≡ bottom → ⊥
  first-apart q = L.not-bottom g bottom good.0.bounded good.0.rank good.0.ranks inside M.ok
      (subst (λ (l : List ℕ). Memᴰ bottom l) M.are (subst (λ (x : ℕ). Memᴰ x (nums_in c nodes)) q
      (mem-tab c (λ (i : ℕ). get_or nodes i 0) 0 some-prev)))

  -- ---- the bytes

  pair-bytes : get_or vs (2 * first + 1) 0 + get_or vs (2 * bottom + 1) 0 ≤ vertex_room heads
  pair-bytes =
      let k = total_kept length [] g.verts (first ∷ bottom ∷ []) (λ m. first-apart (Memᴰ.eq_of_singleton m), (λ m. Memᴰ.not-nil m, tt)) below in
      omega (arith, k, bytes-is g.verts, fit-bytes H.fit, sums)
    where
      below : (v : ℕ) → Memᴰ v (first ∷ bottom ∷ []) → v < length g.verts
      below v m = rw (length-tab h.n (seq_in vs p)) (⊎_elim (λ (e : v ≡ first). rw e first_below) (λ k. let e : v ≡ bottom =
          Memᴰ.eq_of_singleton k in rw e M.below) (Memᴰ.cases_cons m))

      size : (v : ℕ) → v < h.n → length (get_or g.verts v []) ≡ get_or vs (2 * v + 1) 0
      size v b = ap length (get_or-tab h.n (seq_in vs p) v [] b) ∙ part-long p _ _ ((held-pool H R).at v b)

      sums : total (λ (v : ℕ). length (get_or g.verts v [])) (first ∷ bottom ∷ []) ≡ get_or vs (2 * first + 1) 0 + get_or vs (2 * bottom + 1) 0
      sums = unfold total in omega (arith, size first first_below, size bottom M.below)

  pub merge-writable : MergeWritable vs p h.used first bottom
  merge-writable = record {
    first-room = omega (arith, first_below, n_room, R.vs-room);
    bottom-room = omega (arith, M.below, n_room, R.vs-room);
    first-before = H.within.at first first_below;
    bottom-before = H.within.at bottom M.below;
    room = omega (arith, pair-bytes, H.used-room, R.p-room);
  }

  -- ---- the edges

  into-is : new_into h.n h.m es nodes c ≡ map (redirected_to (node_count g)) (concat (map (edges_into g) prevs))
  into-is =
      (λ i. concat (map (λ (v : ℕ). into-all h.n h.k.0 h.n h.m es vs p v i) (M.are i)))
      ∙ map-concat (redirected_to h.n) (edges_into g) prevs
      ∙ ap (λ (x : ℕ). map (redirected_to x) (concat (map (edges_into g) prevs))) (sym order)

  pub edges_are : merge_edges h.n h.m es nodes c bottom ≡ change.edges
  unfolding merge_change
  edges_are = λ i. into-is i ++ (from_all h.n h.k.0 h.n h.m es vs p bottom
      ∙ ap (λ (x : ℕ). map (redirected_from x) (edges_from g bottom)) (sym order)) i

  stays : (u v : ℕ) → Linked change.edges u v → (keeps change.gone u ≡ true) × (keeps change.gone v ≡ true)
  unfolding merge_change redirected_to redirected_from new_edge edge_data
  stays u v (e, m, a, b) = ⊎_elim
      (λ k. let x = Memᴰ.of_map (redirected_to (node_count g)) (concat (map (edges_into g) prevs)) k in
      let y = L.of-mem-flat (edges_into g) prevs x.1 in
      let d = of-edges_into g y.0 x.0 y.2 in
      let i : v ≡ node_count g = sym b ∙ sym (ap (λ (e : Edge). e.to) x.2) in (
        L.into-kept g bottom good.0.bounded good.0.rank good.0.ranks inside M.ok u y.0 y.1 (
          x.0,
          d.0,
          ap (λ (e : Edge). e.from) x.2 ∙ a,
          d.1,
        ),
        rw i (L.new-kept g bottom good.0.bounded good.0.rank good.0.ranks inside M.ok),
      ))
      (λ k. let x = Memᴰ.of_map (redirected_from (node_count g)) (edges_from g bottom) k in
      let d = of-edges_from g bottom x.0 x.1 in
      let i : u ≡ node_count g = sym a ∙ sym (ap (λ (e : Edge). e.from) x.2) in (
        rw i (L.new-kept g bottom good.0.bounded good.0.rank good.0.ranks inside M.ok),
        L.out-kept g bottom good.0.bounded good.0.rank good.0.ranks inside M.ok v (x.0, d.0, d.1, ap (λ (e : Edge). e.to) x.2 ∙ b),
      ))
      (Memᴰ.append_cases (map (redirected_to (node_count g)) (concat (map (edges_into g) prevs))) m)

  did : try_merge_common_suffices g bottom ≡ some (apply_change g change)
  unfolding try_merge_common_suffices merges_suffices given
  did = rw M.ok

  tame : Tame g (apply_change g change) × (node_count (apply_change g change) < node_count g)
  tame = merge-tame g (apply_change g change) bottom good did

  fit-new : Fit (apply_change g change) heads nexts
  fit-new = fit-tame H.fit tame.0

  -- one edge less than the room
  few-edges : length (with_additions change g).edges + 1 ≤ 2 * edge_room nexts
  unfolding load
  few-edges = omega (
    arith,
    edges-grown g good.0.bounded change stays,
    fit-new.surplus,
    tame.1,
    fit-vertices H.fit,
    held-edges H,
    length-tab h.m (edge_in es),
  )

  edges-with : add_or_update_edges (merge_edges h.n h.m es nodes c bottom) (edges_in h.m es) ≡ (with_additions change g).edges
  edges-with = ap (λ (x : List Edge). add_or_update_edges x (edges_in h.m es)) edges_are ∙ unfold with_additions in refl

  pub edges-ready : Indexed h.m h.n es heads nexts → MergeEdgesReady h.n h.m es heads nexts nodes c bottom mp
  edges-ready I = record {
    indexed = I;
    prevs = M.prevs;
    below = M.below;
    mp-room = omega (arith, n_room, R.map-room);
    roomy = record {
      room = omega (arith, ap length edges-with, few-edges, R.es-room);
      small = omega (arith, ap length edges-with, few-edges, R.small);
      n-small = omega (arith, n_room, R.vertices-edges, R.small);
    };
  }

  -- ---- the new vertex

  pub put-room : 2 * h.n + 2 ≤ length vs
  put-room = omega (arith, n_room, M.below, R.vs-room)

  module _ {end : ℕ} {p₁ : List ℕ} (W : MergeWritten vs p h.used first bottom end p₁) (q : length p₁ ≡ length p) where
    pub end_low : h.used ≤ end
    end_low = omega (arith, W.end)

    pub end-high : end ≤ 2 * vertex_room heads
    end-high = omega (arith, W.end, pair-bytes, H.used-room)

    abbrev vs₁ : List ℕ
    vs₁ = put_vertex vs h.n h.used (end - h.used)

    put-start : get_or vs₁ (2 * h.n) 0 ≡ h.used
    unfolding put_vertex
    put-start = get_or-set_other (set vs (2 * h.n) h.used) (2 * h.n + 1) (2 * h.n) _ 0 (λ z. omega arith)
        ∙ get_or-set_same vs (2 * h.n) h.used 0 (omega (arith, put-room))

    put-size : get_or vs₁ (2 * h.n + 1) 0 ≡ end - h.used
    unfolding put_vertex
    put-size = get_or-set_same (set vs (2 * h.n) h.used) (2 * h.n + 1) _ 0 (rw (length-set vs (2 * h.n) h.used) (omega (arith, put-room)))

    put_other : (v : ℕ) → (v ≡ h.n → ⊥) → (get_or vs₁ (2 * v) 0 ≡ get_or vs (2 * v) 0) × (get_or vs₁ (2 * v + 1) 0 ≡ get_or vs (2 * v + 1) 0)
    unfolding put_vertex
    put_other v ne = (
      get_or-set_other (set vs (2 * h.n) h.used) (2 * h.n + 1) (2 * v) _ 0 (λ z. omega arith)
          ∙ get_or-set_other vs (2 * h.n) (2 * v) _ 0 (λ z. ne (omega arith)),
      get_or-set_other (set vs (2 * h.n) h.used) (2 * h.n + 1) (2 * v + 1) _ 0 (λ z. ne (omega arith))
          ∙ get_or-set_other vs (2 * h.n) (2 * v + 1) _ 0 (λ z. omega arith),
    )

    seq-new : seq_in vs₁ p₁ h.n ≡ vertex_sequence g (head_or 0 prevs) ++ vertex_sequence g bottom
    seq-new = rw (put-start, put-size) (W.is ∙ sym (λ i. (ap (vertex_sequence g) head-is
        ∙ seq-at h.k.0 h.n h.m es vs p first first_below) i ++ seq-at h.k.0 h.n h.m es vs p bottom M.below i))

    seq-old : (v : ℕ) → v < h.n → seq_in vs₁ p₁ v ≡ seq_in vs p v
    seq-old v b = let z = put_other v (λ e. omega arith) in rw (z.0, z.1)
        (part_same p p₁ (get_or vs (2 * v) 0) (get_or vs (2 * v) 0) (get_or vs (2 * v + 1) 0) ((held-pool H R).at v b)
        (omega (arith, (held-pool H R).at v b, q)) (λ x d. W.old (get_or vs (2 * v) 0 + x) (omega (arith, H.within.at v b))))

    verts-with : seqs_in (h.n + 1) vs₁ p₁ ≡ g.verts ++ change.verts
    unfolding merge_change
    verts-with = tab-snoc h.n (seq_in vs₁ p₁) ∙ (λ i. tab-ext h.n (seq_in vs₁ p₁) (seq_in vs p) seq-old i ++ (seq-new i ∷ []))

    within-with : Within (2 * vertex_room heads) (h.n + 1) vs₁
    within-with = record {
      at = λ v b. by_test (eqb v h.n)
          (λ t. rw (eqb-true v h.n t) (omega (arith, put-start, put-size, end-high, end_low)))
          (λ t. let ne = eqb-false v h.n t in let z = put_other v ne in
          omega (arith, z.0, z.1, H.within.at v (by_order h.n v (λ a. absurd (ne (omega arith))) (λ a. a)), H.used-room));
    }

    -- ---- closing up

    module _ {k : ℕ} {es₁ : List ℕ} (E : MergeEdgesDone h.n h.m es nodes c bottom k es₁) where
      k-few : k + 1 ≤ 2 * edge_room nexts
      k-few = omega (arith, length-tab k (edge_in es₁), ap length (E.is ∙ edges-with), few-edges)

      pub merge-compactable : {vs₂ mp₂ : List ℕ} → length es₁ ≡ length es → length vs₂ ≡ length vs → length mp₂ ≡ length mp
          → Compactable (h.n + 1) k es₁ vs₂ mp₂
      merge-compactable a b d = record {
        es-room = omega (arith, a, k-few, R.es-room);
        vs-room = omega (arith, b, put-room);
        mp-room = omega (arith, d, n_room, M.below, R.map-room);
        small = omega (arith, n_room, M.below, R.vertices-edges, R.small);
        ends = mem-ends (h.n + 1) k es₁ (λ e m. let z = L.bounded_g g bottom good.0.bounded good.0.rank good.0.ranks inside
            M.ok e (subst (λ (l : List Edge). Memᴰ e l) (E.is ∙ edges-with) m) in
            (omega (arith, z.0, size), omega (arith, z.1, size)));
      }
        where
          size : node_count (with_additions change g) ≡ h.n + 1
          size = order-grown g change ∙ unfold merge_change in (λ i. order i + 1)

      module _ {vs₂ : List ℕ} (put : vs₂ ≡ vs₁) {r : Counts} {es₃ vs₃ mp₃ : List ℕ} (D :
          Removed (h.n + 1) k es₁ vs₂ (bottom ∷ nums_in c nodes) r es₃ vs₃ mp₃) where
        removed-is : graph_in h.k.0 r.n r.m es₃ vs₃ p₁ ≡ apply_change g change
        unfolding apply_change with_additions
        removed-is = D.is h.k.0 p₁ ∙ (λ i. remove_vertices_by_id (gone i) record {
          k = h.k.0;
          verts =
              (ap (λ (x : List ℕ). seqs_in (h.n + 1) x p₁) put ∙ verts-with) i;
          edges = (E.is ∙ edges-with) i;
        })
          where
            gone : bottom ∷ nums_in c nodes ≡ change.gone
            gone = ap (λ (l : List ℕ). bottom ∷ l) M.are ∙ unfold merge_change in refl

        fit-rest : Fit (graph_in h.k.0 r.n r.m es₃ vs₃ p₁) heads nexts
        fit-rest = rw removed-is fit-new

        within-rest : Within (2 * vertex_room heads) r.n vs₃
        within-rest = D.within (2 * vertex_room heads) (rw put within-with)

        pool-rest : Within (length p₁) r.n vs₃
        pool-rest = record { at = λ v b. omega (arith, within-rest.at v b, R.p-room, q) }

        bytes_rest : bytes_in r.n vs₃ ≤ vertex_room heads
        bytes_rest = omega (arith, fit-bytes fit-rest, held_bytes r.n vs₃ p₁ pool-rest)

        pub merge-packable : {base : ℕ} → base ≡ 2 * vertex_room heads → length vs₃ ≡ length vs → Packable r.n vs₃ p₁ base
        merge-packable e b = record {
          vs-room = omega (arith, b, D.most-n, put-room);
          within = rw e within-rest;
          room = omega (arith, e, bytes_rest, R.p-room, q);
          front = omega (arith, e, bytes_rest);
          small = omega (arith, e, R.vertices-edges, R.small);
        }

        pub merged : {used : ℕ} {vs₄ p₄ : List ℕ} → Packed 0 r.n vs₃ p₁ used vs₄ p₄ → length p₄ ≡ length p₁
            → Merged h es vs p heads nexts bottom record { k = h.k; n = r.n; m = r.m; used = used } es₃ vs₄ p₄
        merged {used} {vs₄} {p₄} P b =
            let s = packed-seqs P pool-rest (omega (arith, P.used-is, bytes_rest, R.p-room, q, b)) in
            let same : graph_in h.k.0 r.n r.m es₃ vs₄ p₄ ≡ graph_in h.k.0 r.n r.m es₃ vs₃ p₁ = λ i.
            record { k = h.k.0; verts = s i; edges = edges_in r.m es₃ } in
            record {
              is = same ∙ removed-is;
              holds = record {
                fit = rw same fit-rest;
                within = packed-within
                    P pool-rest (omega (arith, P.used-is, bytes_rest, R.p-room, q, b));
                used-room = omega (arith, P.used-is, bytes_rest);
              };
            }
