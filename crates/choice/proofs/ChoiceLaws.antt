-- The first four steps of cleanup in slices. Assumes nothing.
use mathlib.Core.Path.{◌≡◌, refl, sym, ap, ◌∙◌}
use mathlib.Core.List.{List}
use Prim.Native.Nat.{ℕ, ◌+◌, ◌*◌, ◌≤◌, ◌<◌}
use native.Mathlib.Omega.{arith}
use lib.ListN.{length}
use Rattle.defs.specs.SeqGraph.{Graph}
use Rattle.defs.specs.Zip as Z
use Rattle.defs.specs.Zip.{zip_linear_chains}
use Rattle.defs.specs.Simplify.{simplify_graph_full, min_tail_suffix_len}
use Rattle.defs.specs.Cleanup.{before_choice, remove_singleton_orphan_vertices, remove_vertices_not_connected_to_ref}
use Rattle.laws.proofs.Bound.{begun, zip-paid}
use Rattle.compact.specs.Compact.{Compactable}
use Rattle.index.specs.Index.{Indexed, Indexable}
use Rattle.memory.specs.Memory.{graph_of, work_of, vertex_room, Room, Holds, Simplifiable}
use Rattle.memory.specs.declared.Held.{Held}
use Rattle.memory.specs.declared.Work.{Work}
use Rattle.memory.proofs.RoomLaws.{held-vertices, held-edges, held-ends, room-kept, holds_kept}
use Rattle.zip_linear_chains.specs.Zips as Y
use Rattle.zip_linear_chains.specs.Zips.{ZippedAll}
use Rattle.rounds.specs.Rounds.{Full}
use Rattle.rounds.specs.declared.Simplified.{Simplified}
use Rattle.reach.specs.Reach.{Walkable}
use Rattle.orphans.specs.Orphans.{Reduced}
use Rattle.choice.specs.Choice.{fresh, Zippable, Lean, HoldsLean, Cleanable, BeforeChoice}
use Rattle.choice.proofs.LeanLaws.{lean-fit, lean-tame, lean-as, lean-kept, lean-connected, lean-simplified, lean-rewrites}

-- ---- held graphs

pub lean-holds : {h : Held} {es vs p heads nexts : List ℕ} → HoldsLean h es vs p heads nexts → Holds h es vs p heads nexts
lean-holds H = record { fit = lean-fit H.lean; within = H.within; used-room = H.used-room }

pub holds-lean-kept : {h : Held} {es vs p heads nexts heads' nexts' : List ℕ} → HoldsLean h es vs p heads nexts → length heads'
    ≡ length heads → length nexts' ≡ length nexts → HoldsLean h es vs p heads' nexts'
holds-lean-kept H d e = record { lean = lean-kept H.lean d e; within = H.within; used-room = rw d H.used-room }

module _ {h : Held} {es vs p heads nexts nodes mp : List ℕ} (R : Room es vs p heads nexts nodes mp) (H : Holds h es vs p heads nexts) where
  pub held_small : h.m < 4294967296
  held_small = omega (arith, held-edges H, R.small)

  pub held-compactable : Compactable h.n h.m es vs mp
  held-compactable = record {
    es-room = omega (arith, held-edges H, R.es-room);
    vs-room = omega (arith, held-vertices H, R.vs-room);
    mp-room = omega (arith, held-vertices H, R.map-room);
    small = omega (arith, held-vertices H, R.vertices-edges, R.small);
    ends = held-ends H;
  }

  pub held-indexable : Indexable h.m h.n es heads nexts
  held-indexable = record {
    room = omega (arith, held-edges H, R.es-room);
    heads-room = omega (arith, held-vertices H);
    nexts-room = omega (arith, held-edges H);
    small = held_small;
    ends = held-ends H;
  }

  pub held-walkable : {tried : List ℕ} → vertex_room heads ≤ length tried → Walkable h.n tried nodes
  held-walkable l = record {
    marks-room = omega (arith, held-vertices H);
    queue-room =
        omega (arith, held-vertices H, R.vertices-edges, R.nodes-room);
    small = omega (arith, held-vertices H, R.vertices-edges, R.small);
  }

-- ---- the opening zip

module _ {h : Held} {es vs p heads nexts nodes mp starts : List ℕ} (Q : Zippable h es vs p heads nexts nodes mp starts) where
  pub zippable-indexable : Indexable h.m h.n es heads nexts
  zippable-indexable = held-indexable Q.room Q.holds

  pub zippable-ready : {heads₁ nexts₁ : List ℕ} → Indexed h.m h.n es heads₁ nexts₁ → length heads₁ ≡ length heads → length nexts₁
      ≡ length nexts → Y.ReadyToZip (fresh h) es vs p heads₁ nexts₁ nodes mp
  zippable-ready I d e = record {
    room = room-kept Q.room refl refl refl d e refl refl;
    holds = holds_kept Q.holds d e;
    indexed = I;
    countable = omega (arith, held-vertices Q.holds, Q.room.vertices-edges, Q.room.small);
  }

-- ---- lone vertices, then what is not connected

module _ {h : Held} {es vs heads nexts mp : List ℕ} (C : Compactable h.n h.m es vs mp) (X : Indexed h.m h.n es heads nexts) {f :
    Graph → Graph} {r : Held} {es₁ vs₁ : List ℕ} (R : Reduced f h es vs r es₁ vs₁) where
  pub reduced-indexable : h.m < 4294967296 → length es₁ ≡ length es → Indexable r.m r.n es₁ heads nexts
  reduced-indexable s a = record {
    room = omega (arith, R.most-m, C.es-room);
    heads-room = omega (arith, R.most-n, X.heads-room);
    nexts-room = omega (arith, R.most-m, X.nexts-room);
    small = omega (arith, R.most-m);
    ends = R.ends;
  }

  pub reduced-compactable : {mp₁ : List ℕ} → length es₁ ≡ length es → length vs₁ ≡ length vs → length mp₁ ≡ length mp → Compactable r.n r.m es₁ vs₁ mp₁
  reduced-compactable a b d = record {
    es-room = omega (arith, R.most-m, C.es-room);
    vs-room = omega (arith, R.most-n, C.vs-room);
    mp-room = omega (arith, R.most-n, C.mp-room);
    small = omega (arith, R.most-n, C.small);
    ends = R.ends;
  }

pub reduced-walkable : {f : Graph → Graph} {h : Held} {es vs : List ℕ} {r : Held} {es₁ vs₁ tried nodes : List ℕ}
    → Reduced f h es vs r es₁ vs₁ → Walkable h.n tried nodes → Walkable r.n tried nodes
reduced-walkable R W = record {
  marks-room = omega (arith, R.most-n, W.marks-room);
  queue-room = omega (arith, R.most-n, W.queue-room);
  small = omega (arith, R.most-n, W.small);
}

pub reduced-then : {f f' : Graph → Graph} {h : Held} {es vs : List ℕ} {r : Held} {es₁ vs₁ : List ℕ} {r' : Held} {es₂ vs₂ : List ℕ}
    → Reduced f h es vs r es₁ vs₁ → Reduced f' r es₁ vs₁ r' es₂ vs₂
    → Reduced (λ (g : Graph). f' (f g)) h es vs r' es₂ vs₂
reduced-then {f} {f'} A B = record {
  is = λ p. B.is p ∙ ap f' (A.is p);
  most-n = omega (arith, A.most-n, B.most-n);
  most-m = omega (arith, A.most-m, B.most-m);
  ends = B.ends;
  within = λ used W. B.within used (A.within used W);
  used-is = B.used-is ∙ A.used-is;
}

-- ---- from one state to the next: room goes by lengths

pub reduced-lean : {f : Graph → Graph} {h : Held} {es vs : List ℕ} {r : Held} {es' vs' p heads nexts : List ℕ} → Reduced f h es vs r es' vs'
    → HoldsLean h es vs p heads nexts → Lean (f (graph_of h es vs p)) heads nexts → HoldsLean r es' vs' p heads nexts
reduced-lean {f} {h} {r = r} {vs' = vs'} {p = p} R H L =
    record {
      lean = lean-as (R.is p) L;
      within = rw R.used-is (R.within h.used H.within);
      used-room =
          omega (arith, R.used-is, H.used-room);
    }

pub full-lean : {h : Held} {es vs p heads nexts : List ℕ} {r : Simplified} {es' vs' p' : List ℕ}
    → Full min_tail_suffix_len h es vs p heads nexts r es' vs' p' → Lean (graph_of h es vs p) heads nexts → HoldsLean r.held es' vs' p' heads nexts
full-lean F L = record { lean = lean-as F.answers.graph (lean-simplified L); within = F.holds.within; used-room = F.holds.used-room }

module _ {h : Held} {es vs p heads nexts nodes mp starts tried sig : List ℕ} (C : Cleanable h es vs p heads nexts nodes mp starts tried sig) where
  pub cleanable-next : {h' : Held} {es' vs' p' heads' nexts' nodes' mp' starts' tried' sig' : List ℕ} → HoldsLean h' es' vs' p' heads nexts
      → length es' ≡ length es → length vs' ≡ length vs → length p' ≡ length p → length heads' ≡ length heads → length nexts' ≡ length nexts
      → length nodes' ≡ length nodes → length mp' ≡ length mp
      → length starts' ≡ length starts → length tried' ≡ length tried → length sig' ≡ length sig
      → Cleanable h' es' vs' p' heads' nexts' nodes' mp' starts' tried' sig'
  cleanable-next H la lb lc ld le lf lg li lj lk = record {
    room = room-kept C.room la lb lc ld le lf lg;
    holds = holds-lean-kept H ld le;
    scratch = record { starts-room = omega (arith, C.scratch.starts-room); tried-room = rw (ld, lj) C.scratch.tried-room };
    sig-room = rw (ld, le, lk) C.sig-room;
    countable = record { small = rw ld C.countable.small };
  }

  pub cleanable-zippable : Zippable h es vs p heads nexts nodes mp starts
  cleanable-zippable = record { room = C.room; holds = lean-holds C.holds; starts-room = C.scratch.starts-room }

  pub cleanable-simplifiable : Simplifiable min_tail_suffix_len h es vs p heads nexts nodes mp starts tried sig
  cleanable-simplifiable = record {
    least-is = omega arith;
    room = C.room;
    holds = lean-holds C.holds;
    scratch = C.scratch;
    sig-room = C.sig-room;
    countable = C.countable;
  }

  pub cleanable-compactable : Compactable h.n h.m es vs mp
  cleanable-compactable = held-compactable C.room (lean-holds C.holds)

  pub cleanable-walkable : Walkable h.n tried nodes
  cleanable-walkable = held-walkable C.room (lean-holds C.holds) C.scratch.tried-room

-- what is asked after the opening zip
pub zipped-connectable : {w₀ w : Work} {es₀ vs₀ p₀ es vs p heads nexts nodes mp tried : List ℕ}
    → ZippedAll w₀ es₀ vs₀ p₀ w es vs p heads nexts nodes mp → vertex_room heads ≤ length tried
    → Compactable w.held.n w.held.m es vs mp × (Indexed w.held.m w.held.n es heads nexts
    × (Walkable w.held.n tried nodes × (w.held.m < 4294967296)))
zipped-connectable Q l = let Y = Q.ready in (
  held-compactable Y.room Y.holds,
  (Y.indexed, (held-walkable Y.room Y.holds l, held_small Y.room Y.holds)),
)

-- ---- all four

module _ {h : Held} {es vs p heads nexts : List ℕ} (H : HoldsLean h es vs p heads nexts) {z : Work} {es₁ vs₁ p₁ heads₁ nexts₁ nodes₁ mp₁ :
    List ℕ} (Q : ZippedAll (fresh h) es vs p z es₁ vs₁ p₁ heads₁ nexts₁ nodes₁ mp₁) (ld : length heads₁ ≡ length heads)
    {a : Held} {es₂ vs₂ : List ℕ} (R : Reduced (λ (g : Graph). remove_vertices_not_connected_to_ref (remove_singleton_orphan_vertices g)) z.held
    es₁ vs₁ a es₂ vs₂) where
  zipped-lean : HoldsLean z.held es₁ vs₁ p₁ heads nexts
  zipped-lean = record {
    lean = lean-as (ap (λ (x : Z.Work). x.graph) Q.is) (lean-tame H.lean (zip-paid (begun (graph_of h es vs p)) H.lean.good).tame);
    within = Q.ready.holds.within;
    used-room = omega (arith, Q.ready.holds.used-room, ld);
  }

  pub cut-lean : HoldsLean a es₂ vs₂ p₁ heads nexts
  cut-lean = reduced-lean R zipped-lean (lean-connected zipped-lean.lean)

  cut-is : graph_of a es₂ vs₂ p₁ ≡ remove_vertices_not_connected_to_ref (remove_singleton_orphan_vertices (zip_linear_chains (begun (graph_of h es vs p))).graph)
  cut-is = R.is p₁ ∙ ap (λ (x : Z.Work). remove_vertices_not_connected_to_ref (remove_singleton_orphan_vertices x.graph)) Q.is

  module _ {heads₂ nexts₂ : List ℕ} {s : Simplified} {es₃ vs₃ p₃ : List ℕ} (F : Full min_tail_suffix_len a es₂ vs₂ p₁ heads₂ nexts₂ s es₃ vs₃ p₃) where
    pub before-most : z.rewrites + s.rewrites ≤ 203 * vertex_room heads
    before-most = omega (arith, Q.less, held-vertices (lean-holds H), F.answers.rewrites, lean-rewrites cut-lean.lean)

    before-is : work_of record { held = s.held; rewrites = z.rewrites + s.rewrites } es₃ vs₃ p₃ ≡ before_choice (graph_of h es vs p)
    unfolding before_choice
    before-is = λ i. record {
      graph = (F.answers.graph ∙ ap (λ (x : Graph). (simplify_graph_full min_tail_suffix_len x).graph) cut-is) i;
      rewrites = (ap (λ (x : Z.Work). x.rewrites) Q.is) i + (F.answers.rewrites ∙ ap (λ (x : Graph). (simplify_graph_full min_tail_suffix_len x).rewrites) cut-is) i;
    }

    pub before-all : {w : Work} → w ≡ record { held = s.held; rewrites = z.rewrites + s.rewrites } → length heads₂ ≡ length heads
        → length nexts₂ ≡ length nexts → BeforeChoice h es vs p heads nexts w es₃ vs₃ p₃
    before-all q d e = rw q record {
      is = before-is;
      holds = holds-lean-kept (full-lean F (lean-kept cut-lean.lean d e)) (sym d) (sym e);
      most = before-most;
    }
