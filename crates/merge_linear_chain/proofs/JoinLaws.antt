-- The steps of joining a chain make `merge_linear_chain`. Assumes nothing.
use mathlib.Core.Path.{◌≡◌, refl, sym, ap, ◌∙◌, subst}
use mathlib.Core.Bool.{Bool, true, false, cond}
use mathlib.Core.List.Memᴰ
use mathlib.Core.List.{List, [], ◌∷◌, ◌++◌, map, Memᴰ}
use mathlib.Core.Logic.{⊎_elim}
use Prim.Native.Nat.{ℕ, ◌+◌, ◌*◌, ◌-◌, ◌≤◌, ◌<◌}
use native.Mathlib.Omega.{arith}
use lib.ListN.{length, get_or, set}
use lib.Dec.{eqb}
use borrow.Author.Tests.{eqb-true, eqb-false}
use Rattle.defs.specs.Lists.{tab, concat, sum}
use Rattle.defs.specs.SeqGraph.{Edge, Graph, node_count, vertex_sequence, remove_vertices_by_id}
use Rattle.defs.specs.Zip.{last_of, move_from, merge_linear_chain}
use Rattle.defs.specs.Simplify.{sequence_bytes}
use Rattle.laws.proofs.Walks.{by_test}
use Rattle.laws.proofs.Counts.{total, total_kept}
use Rattle.laws.proofs.Whole.{by_list}
use Rattle.laws.proofs.Fuel.{Good}
use Rattle.laws.proofs.Measures.{bytes-is, zip-tame}
use Rattle.laws.proofs.ZipLaws.{Chained, src-moved, src-kept}
use Rattle.laws.proofs.ZipCounts.{distinct-chain}
use Rattle.tabs.proofs.Tabs.{length-tab, get_or-tab, tab-ext, tab-snoc}
use Rattle.tabs.proofs.SumTabs.{map-tab, total-sum}
use Rattle.tabs.proofs.ListTabs.{of-mem-tab}
use Rattle.store.specs.Store.{edge_in, edges_in, seq_in, seqs_in, graph_in, nums_in, EndsBelow, Within, put_vertex}
use Rattle.store.proofs.VertexLaws.{part-long, seq-at}
use Rattle.compact.specs.Compact.{Compactable, Below, Removed}
use Rattle.compact.specs.declared.Counts.{Counts}
use Rattle.compact.proofs.CompactLaws.{order-in, mem-ends}
use Rattle.pool.specs.Pool.{bytes_in, Packable, Packed}
use Rattle.pool.proofs.PoolLaws.{packed-seqs, packed-within}
use Rattle.memory.specs.Memory.{graph_of, vertex_room, Room, Fit, Holds}
use Rattle.memory.specs.declared.Held.{Held}
use Rattle.memory.proofs.RoomLaws.{fit-bytes, fit-tame, held-vertices, held-edges, held-ends, held-pool}
use Rattle.merge_linear_chain.proofs.WrittenLaws.{verts-written, within-written}
use Rattle.merge_linear_chain.specs.Zip.{ChainWritable, ChainWritten, moved_edge, EdgesMoved, Chain, Joined}
use Rattle.store.specs.Store.{nodes_length}

-- ---- lengths

pub total-tab : {A : Type 0} (n : ℕ) (f : A → ℕ) (g : ℕ → A) → total f (tab n g) ≡ sum (tab n (λ (i : ℕ). f (g i)))
total-tab n f g = total-sum f (tab n g) ∙ ap sum (map-tab f n g)

-- the bytes of the held sequences
pub held_bytes : (n : ℕ) (vs p : List ℕ) → Within (length p) n vs → sequence_bytes (seqs_in n vs p) ≡ bytes_in n vs
held_bytes n vs p W =
    bytes-is (seqs_in n vs p) ∙ total-tab n length (seq_in vs p)
    ∙ ap sum (tab-ext n (λ (v : ℕ). length (seq_in vs p v)) (λ (v : ℕ). get_or vs (2 * v + 1) 0) (λ v h. part-long p _ _ (W.at v h)))

last_snoc : (l : List ℕ) (u x : ℕ) → last_of u (l ++ (x ∷ [])) ≡ x
unfolding last_of
last_snoc [] u x = refl
last_snoc (y ∷ l) u x = last_snoc l y x

-- the last of a list by index
pub last-of : (v n : ℕ) (f : ℕ → ℕ) → 1 ≤ n → last_of v (tab n f) ≡ f (n - 1)
last-of v n f h = ap (λ (x : ℕ). last_of v (tab x f)) size ∙ ap (last_of v) (tab-snoc (n - 1) f) ∙ last_snoc (tab (n - 1) f) v (f (n - 1))
  where
    size : n ≡ (n - 1) + 1
    size = omega arith

-- ---- the graph and the chain

module _ {h : Held} {es vs p heads nexts nodes mp : List ℕ} {start c : ℕ}
    (R : Room es vs p heads nexts nodes mp) (H : Holds h es vs p heads nexts) (C : Chain h es vs p nodes start c) where
  abbrev g : Graph
  g = graph_of h es vs p

  abbrev rest : List ℕ
  rest = nums_in c nodes

  abbrev good : Good g
  good = H.fit.good

  n_room : h.n ≤ vertex_room heads
  n_room = held-vertices H

  rest_below : (v : ℕ) → Memᴰ v (start ∷ rest) → v < h.n
  rest_below v m = ⊎_elim (λ (e : v ≡ start). rw e C.start-below) (λ k. let z = of-mem-tab c (λ (i : ℕ). get_or nodes i 0) k in
      rw z.2 (C.below z.0 z.1)) (Memᴰ.cases_cons m)

  vs-room : 2 * h.n ≤ length vs
  vs-room = omega (arith, n_room, R.vs-room)

  used-below : h.used ≤ length p
  used-below = omega (arith, H.used-room, R.p-room)

  chain-bytes : get_or vs (2 * start + 1) 0 + nodes_length vs nodes c ≤ vertex_room heads
  chain-bytes =
      let k = total_kept length [] g.verts (start ∷ rest) (distinct-chain g good.0.bounded good.0.rank good.0.ranks start rest C.chained)
      (λ v m. rw (length-tab h.n (seq_in vs p)) (rest_below v m)) in
      omega (arith, k, bytes-is g.verts, fit-bytes H.fit, sums)
    where
      size : (v : ℕ) → v < h.n → length (get_or g.verts v []) ≡ get_or vs (2 * v + 1) 0
      size v b = ap length (get_or-tab h.n (seq_in vs p) v [] b) ∙ part-long p _ _ ((held-pool H R).at v b)

      sums : total (λ (v : ℕ). length (get_or g.verts v [])) (start ∷ rest) ≡ get_or vs (2 * start + 1) 0 + nodes_length vs nodes c
      sums = unfold total in (λ i. size start C.start-below i + (total-tab c (λ (v : ℕ). length (get_or g.verts v [])) (λ (i : ℕ). get_or nodes i 0)
          ∙ ap sum (tab-ext c (λ (j : ℕ). length (get_or g.verts (get_or nodes j 0) [])) (λ (j : ℕ). get_or vs (2 * get_or nodes j 0 + 1) 0)
          (λ j b. size (get_or nodes j 0) (C.below j b)))) i)

  pub join-writable : ChainWritable vs p h.used start nodes c
  join-writable = record {
    nodes-room = C.room;
    start-room = omega (arith, C.start-below, n_room, R.vs-room);
    start-before = H.within.at start C.start-below;
    vs-room = λ i b. omega (arith, C.below i b, n_room, R.vs-room);
    before = λ i b. H.within.at (get_or nodes i 0) (C.below i b);
    room = omega (arith, chain-bytes, H.used-room, R.p-room);
  }

  -- the written sequence
  module _ {end : ℕ} {p' : List ℕ} (W : ChainWritten vs p h.used start nodes c end p') where
    pub end_low : h.used ≤ end
    end_low = omega (arith, W.end)

    pub end-high : end ≤ 2 * vertex_room heads
    end-high = omega (arith, W.end, chain-bytes, H.used-room)

    abbrev vs' : List ℕ
    vs' = put_vertex vs start h.used (end - h.used)

    abbrev merged : List ℕ
    merged = concat (map (vertex_sequence g) (start ∷ rest))

    merged-is : merged ≡ concat (map (seq_in vs p) (start ∷ rest))
    merged-is = λ i. concat (seq-at h.k.0 h.n h.m es vs p start C.start-below i ∷ seqs i)
      where
        seqs : map (vertex_sequence g) rest ≡ map (seq_in vs p) rest
        seqs = map-tab (vertex_sequence g) c (λ (i : ℕ). get_or nodes i 0)
            ∙ tab-ext c (λ (i : ℕ). vertex_sequence g (get_or nodes i 0)) (λ (i : ℕ). seq_in vs p (get_or nodes i 0)) (λ i b.
            seq-at h.k.0 h.n h.m es vs p (get_or nodes i 0) (C.below i b))
            ∙ sym (map-tab (seq_in vs p) c (λ (i : ℕ). get_or nodes i 0))

    pub verts-joined : length p' ≡ length p → seqs_in h.n vs' p' ≡ set g.verts start merged
    verts-joined q = verts-written C.start-below vs-room H.within used-below W q ∙ ap (set g.verts start) (sym merged-is)

    pub within-joined : Within (2 * vertex_room heads) h.n vs'
    within-joined = record { at = λ v b. omega (arith, (within-written C.start-below vs-room H.within used-below W).at v b, end-high) }

  -- the moved edges
  module _ (y : ℕ) (ys : List ℕ) (is-rest : rest ≡ y ∷ ys) where
    chained : Chained g start (y ∷ ys)
    chained = subst (λ (l : List ℕ). Chained g start l) is-rest C.chained

    abbrev last : ℕ
    last = last_of start (y ∷ ys)

    move_same : (e : Edge) → Memᴰ e g.edges → moved_edge last start e ≡ move_from last (start ∷ y ∷ ys) start e
    move_same e m = λ i. record { from = source i; to = target i; support = held i; is_ref = flag i; capped = mark i }
      where
        source : cond (eqb e.from last) start e.from ≡ (move_from last (start ∷ y ∷ ys) start e).from
        source = by_test (eqb e.from last)
            (λ t. rw t (sym (src-moved g good.0.bounded good.0.rank good.0.ranks start y ys chained e m (eqb-true _ _ t))))
            (λ t. rw t (sym (src-kept g good.0.bounded good.0.rank good.0.ranks start y ys chained e (eqb-false _ _ t))))

        target : e.to ≡ (move_from last (start ∷ y ∷ ys) start e).to
        target = unfold move_from in refl

        held : e.support ≡ (move_from last (start ∷ y ∷ ys) start e).support
        held = unfold move_from in refl

        flag : e.is_ref ≡ (move_from last (start ∷ y ∷ ys) start e).is_ref
        flag = unfold move_from in refl

        mark : e.capped ≡ (move_from last (start ∷ y ∷ ys) start e).capped
        mark = unfold move_from in refl

    map_same : (l : List Edge) → ((e : Edge) → Memᴰ e l → Memᴰ e g.edges) → map (moved_edge last start) l
        ≡ map (move_from last (start ∷ y ∷ ys) start) l
    map_same [] s = refl
    map_same (e ∷ l) s = λ i. move_same e (s e (Memᴰ.head refl)) i ∷ map_same l (λ d m. s d (Memᴰ.tail m)) i

    pub edges-joined : map (moved_edge last start) g.edges ≡ map (move_from last (start ∷ y ∷ ys) start) g.edges
    edges-joined = map_same g.edges (λ e m. m)

    tame : (Rattle.laws.proofs.Measures.Tame g (merge_linear_chain g start (y ∷ ys))) × (node_count (merge_linear_chain g start (y ∷ ys)) < node_count g)
    tame = zip-tame g start y ys good chained

    abbrev joined : Graph
    joined = merge_linear_chain g start (y ∷ ys)

  -- the ends after moving
  pub moved_ends : {es' : List ℕ} {last : ℕ} → EdgesMoved h.m es last start es' → EndsBelow h.n h.m es'
  moved_ends {es'} {last} M = mem-ends h.n h.m es' (λ e m.
      each e (subst (λ (l : List Edge). Memᴰ e l) (M.is ∙ map-tab (moved_edge last start) h.m (edge_in es)) m))
    where
      either : (t : Bool) {x : ℕ} → x < h.n → cond t start x < h.n
      either true b = C.start-below
      either false b = b

      each : (e : Edge) → Memᴰ e (tab h.m (λ (i : ℕ). moved_edge last start (edge_in es i))) → (e.from < h.n) × (e.to < h.n)
      each e m =
          let z = of-mem-tab h.m (λ (i : ℕ). moved_edge last start (edge_in es i)) m in
          let b = (held-ends H).at z.0 z.1 in (
            rw (ap (λ (x : Edge). x.from) z.2) (either (eqb (get_or es (4 * z.0) 0) last) b.0),
            omega (arith, ap (λ (x : Edge). x.to) z.2, b.1),
          )

  pub join_last : get_or nodes (c - 1) 0 ≡ last_of start rest
  join_last = sym (last-of start c (λ (i : ℕ). get_or nodes i 0) C.some)

  pub last-below : get_or nodes (c - 1) 0 < h.n
  last-below = C.below (c - 1) (omega (arith, C.some))

  pub join-compactable : {es' vs₁ : List ℕ} {last : ℕ} → EdgesMoved h.m es last start es' → length es' ≡ length es → length vs₁
      ≡ length vs → Compactable h.n h.m es' vs₁ mp
  join-compactable M a b = record {
    es-room = omega (arith, a, held-edges H, R.es-room);
    vs-room = omega (arith, b, n_room, R.vs-room);
    mp-room = omega (arith, n_room, R.map-room);
    small = omega (arith, n_room, R.vertices-edges, R.small);
    ends = moved_ends M;
  }

  pub join-below : Below nodes c h.n
  join-below = record { room = C.room; at = C.below }

  -- the whole
  module _ {end : ℕ} {p₁ vs₁ es₁ es₂ vs₂ mp₂ : List ℕ} {last : ℕ} {r : Counts}
      (W : ChainWritten vs p h.used start nodes c end p₁) (q : length p₁ ≡ length p) (put : vs₁ ≡ put_vertex vs start h.used (end - h.used))
      (M : EdgesMoved h.m es last start es₁) (l : last ≡ get_or nodes (c - 1) 0) (D : Removed h.n h.m es₁ vs₁ rest r es₂ vs₂ mp₂) where
    removed-is : graph_in h.k.0 r.n r.m es₂ vs₂ p₁ ≡ merge_linear_chain g start rest
    unfolding merge_linear_chain
    removed-is = by_list rest (λ e. absurd (omega (arith, C.some, ap length e, length-tab c (λ (i : ℕ). get_or nodes i 0)))) (λ y ys e. at-list y ys e)
      where
        at-list : (y : ℕ) (ys : List ℕ) → rest ≡ y ∷ ys → graph_in h.k.0 r.n r.m es₂ vs₂ p₁ ≡ merge_linear_chain g start rest
        at-list y ys e =
            D.is h.k.0 p₁ ∙ ap (remove_vertices_by_id rest) (λ i. record {
              k = h.k.0;
              verts = (ap (λ (x : List ℕ). seqs_in h.n x p₁) put ∙ verts-joined W q) i;
              edges = (M.is ∙ ap (λ (x : ℕ). map (moved_edge x start) g.edges) (l ∙ join_last ∙ ap (last_of start) e) ∙ edges-joined y ys e
                  ∙ ap (λ (x : List ℕ). map (move_from (last_of start x) (start ∷ x) start) g.edges) (sym e)) i;
            })

    tame-rest : (Rattle.laws.proofs.Measures.Tame g (merge_linear_chain g start rest)) × (node_count (merge_linear_chain g start rest) < node_count g)
    tame-rest = by_list rest (λ e. absurd (omega (arith, C.some, ap length e, length-tab c (λ (i : ℕ). get_or nodes i 0)))) (λ y ys e. rw e (tame y ys e))

    fit-rest : Fit (graph_in h.k.0 r.n r.m es₂ vs₂ p₁) heads nexts
    fit-rest = rw removed-is (fit-tame H.fit tame-rest.0)

    within-rest : Within (2 * vertex_room heads) r.n vs₂
    within-rest = D.within (2 * vertex_room heads) (rw put (within-joined W))

    pool-rest : Within (length p₁) r.n vs₂
    pool-rest = record { at = λ v b. omega (arith, within-rest.at v b, R.p-room, q) }

    bytes_rest : bytes_in r.n vs₂ ≤ vertex_room heads
    bytes_rest = omega (arith, fit-bytes fit-rest, held_bytes r.n vs₂ p₁ pool-rest)

    pub join-packable : {base : ℕ} → base ≡ 2 * vertex_room heads → length vs₂ ≡ length vs → Packable r.n vs₂ p₁ base
    join-packable e b = record {
      vs-room = omega (arith, b, D.most-n, n_room, R.vs-room);
      within = rw e within-rest;
      room = omega (arith, e, bytes_rest, R.p-room, q);
      front = omega (arith, e, bytes_rest);
      small = omega (arith, e, R.vertices-edges, R.small);
    }

    pub joined-all : {used : ℕ} {vs₃ p₃ : List ℕ} → Packed 0 r.n vs₂ p₁ used vs₃ p₃ → length p₃ ≡ length p₁
        → Joined h es vs p heads nexts nodes start c record { k = h.k; n = r.n; m = r.m; used = used } es₂ vs₃ p₃ mp₂
    joined-all {used} {vs₃} {p₃} P b =
        let s = packed-seqs P pool-rest (omega (arith, P.used-is, bytes_rest, R.p-room, q, b)) in
        let same : graph_in h.k.0 r.n r.m es₂ vs₃ p₃ ≡ graph_in h.k.0 r.n r.m es₂ vs₂ p₁ = λ i.
        record { k = h.k.0; verts = s i; edges = edges_in r.m es₂ } in
        record {
          is = same ∙ removed-is;
          holds = record {
            fit = rw same fit-rest;
            within = packed-within
                P pool-rest (omega (arith, P.used-is, bytes_rest, R.p-room, q, b));
            used-room = omega (arith, P.used-is, bytes_rest);
          };
          fewer = omega (arith, tame-rest.1, order-in h.k.0 r.n r.m es₂ vs₂ p₁, ap node_count removed-is, order-in h.k.0 h.n h.m es vs p);
          numbered = D.numbered;
          kept = D.kept;
        }
