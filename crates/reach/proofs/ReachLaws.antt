-- The queue of a walk: what it marks is what is reached. Assumes nothing.
use mathlib.Core.Path.{◌≡◌, refl, sym, ap, ◌∙◌}
use mathlib.Core.Logic.{⊎_elim}
use mathlib.Core.Bool.{Bool, true, false}
use mathlib.Core.List.Memᴰ
use mathlib.Core.List.{List, ◌∷◌}
use Prim.Native.Nat.{ℕ, zero, suc, ◌+◌, ◌-◌, ◌≤◌, ◌<◌}
use native.Mathlib.Omega.{arith}
use native.Mathlib.Decide.{ℕ_discrete}
use lib.ListN.{length, get_or, set, length-set}
use lib.Seq.{get_or-set_same, get_or-set_other}
use Rattle.defs.specs.Lists.{tab, elem_of}
use Rattle.defs.specs.Cleanup.{reached}
use Rattle.laws.proofs.Walks.{by_test}
use Rattle.laws.proofs.ListLaws.{clash, by_order}
use Rattle.laws.proofs.Counts.{Distinct}
use Rattle.laws.proofs.Cycles.{distinct-length}
use Rattle.laws.proofs.Reach.{Hop, Way, way-more, of-reached, short-reached}
use Rattle.tabs.proofs.Tabs.{length-tab, set_more}
use Rattle.tabs.proofs.ListTabs.{of-mem-tab}
use Rattle.store.specs.Store.{is_set, graph_in, EndsBelow}
use Rattle.store.proofs.EdgeLaws.{set-not}
use Rattle.compact.specs.Compact.{Cleared}
use Rattle.compact.proofs.CompactLaws.{order-in}
use Rattle.index.specs.Index.{edge_end, pair_at, Next, Index, Indexed}
use Rattle.index.proofs.IndexLaws.{end_below}
use Rattle.tabs.proofs.Ranks.{distinct-tab}
use Rattle.reach.specs.Reach.{walk_step, takes_end, passable, bare, Walkable, QueueFound, MarksGrown, Spread, Pushed, VertexLeft, Reached}
use Rattle.reach.proofs.StepLaws.{step-hop, hop-step}

pub both_ways : (a b : Bool) → (a ≡ true → b ≡ true) → (b ≡ true → a ≡ true) → a ≡ b
both_ways true b f g = sym (f refl)
both_ways false b f g = by_test b (λ t. clash (g t) refl) (λ t. sym t)

-- ---- marks and queue

mark-stays : (marks : List ℕ) (w v : ℕ) → w < length marks → is_set (get_or marks v 0) ≡ true → is_set (get_or (set marks w 1) v 0) ≡ true
mark-stays marks w v r t = elim (ℕ_discrete v w) [
  | yes q ↦ rw q (ap is_set (get_or-set_same marks w 1 0 r))
  | no ne ↦ ap is_set (get_or-set_other marks w v 1 0 ne) ∙ t
]

pub grown-same : {marks queue : List ℕ} {tail : ℕ} → MarksGrown marks queue tail marks queue tail
grown-same = record { more = omega arith; marks_stay = λ v t. t; queue-stays = λ i b. refl }

grown-push : {marks₀ queue₀ : List ℕ} {tail₀ : ℕ} {marks queue : List ℕ} {tail : ℕ} (w : ℕ) → w < length marks
    → MarksGrown marks₀ queue₀ tail₀ marks queue tail → MarksGrown marks₀ queue₀ tail₀ (set marks w 1) (set queue tail w) (tail + 1)
grown-push {marks = marks} {queue} {tail} w r G = record {
  more = omega (arith, G.more);
  marks_stay = λ v t. mark-stays marks w v r (G.marks_stay v t);
  queue-stays = λ i b. get_or-set_other queue tail i w 0 (λ q. omega (arith, G.more)) ∙ G.queue-stays i b;
}

module _ {plain : Bool} {kind m n : ℕ} {es : List ℕ} {s : ℕ} {marks queue : List ℕ} {tail : ℕ} (F : QueueFound plain kind m n es s marks queue tail) where
  queue-distinct : Distinct (tab tail (λ (i : ℕ). get_or queue i 0))
  queue-distinct = distinct-tab (λ (i : ℕ). get_or queue i 0) tail F.once

  pub found-most : tail ≤ n
  found-most = omega (
    arith,
    distinct-length n (tab tail (λ (i : ℕ). get_or queue i 0)) queue-distinct (λ v k. let r = of-mem-tab tail (λ (i : ℕ). get_or queue i 0) k in
        rw r.2 (F.vertex r.0 r.1)),
    length-tab tail (λ (i : ℕ). get_or queue i 0),
  )

  module _ {w : ℕ} (b : w < n) (new : is_set (get_or marks w 0) ≡ false) where
    other : (i : ℕ) → i < tail → get_or queue i 0 ≡ w → ⊥
    other i l q = clash (ap (λ (x : ℕ). is_set (get_or marks x 0)) (sym q) ∙ F.marked i l) new

    -- a vertex without a mark has room in the queue
    pub found-room : tail < n
    found-room =
        omega (
          arith,
          distinct-length n (w ∷ tab tail (λ (i : ℕ). get_or queue i 0))
              (λ k. let r = of-mem-tab tail (λ (i : ℕ). get_or queue i 0) k in other r.0 r.1 (sym r.2), queue-distinct)
              (λ x k. ⊎_elim (λ (q : x ≡ w). omega arith) (λ j. let r = of-mem-tab tail (λ (i : ℕ). get_or queue i 0) j in
              rw r.2 (F.vertex r.0 r.1)) (Memᴰ.cases_cons k)),
          length-tab tail (λ (i : ℕ). get_or queue i 0),
        )

    module _ (marks-room : n ≤ length marks) (queue-room : n ≤ length queue) {h : ℕ} (l : h < tail) (hop :
        Hop (walk_step plain kind) (bare m es) (get_or queue h 0) w) where
      here : get_or (set queue tail w) tail 0 ≡ w
      here = get_or-set_same queue tail w 0 (omega (arith, found-room))

      before : (i : ℕ) → i < tail → get_or (set queue tail w) i 0 ≡ get_or queue i 0
      before i k = get_or-set_other queue tail i w 0 (λ q. omega arith)

      push-once : (i j : ℕ) → i < tail + 1 → j < tail + 1 → get_or (set queue tail w) i 0 ≡ get_or (set queue tail w) j 0 → i ≡ j
      push-once i j a c q = by_order tail i
          (λ (x : tail ≤ i). by_order tail j
          (λ (y : tail ≤ j). omega arith)
          (λ (y : j < tail). absurd (other j y (sym (before j y) ∙ sym q ∙ ap (λ (z : ℕ). get_or (set queue tail w) z 0) (at_tail i a x) ∙ here))))
          (λ (x : i < tail). by_order tail j
          (λ (y : tail ≤ j). absurd (other i x (sym (before i x) ∙ q ∙ ap (λ (z : ℕ). get_or (set queue tail w) z 0) (at_tail j c y) ∙ here)))
          (λ (y : j < tail). F.once i j x y (sym (before i x) ∙ q ∙ before j y)))
        where
          at_tail : (i : ℕ) → i < tail + 1 → tail ≤ i → i ≡ tail
          at_tail i a x = omega arith

      push-place : (v : ℕ) → v < n → is_set (get_or (set marks w 1) v 0) ≡ true → (i : ℕ) × (i < tail + 1) × (get_or (set queue tail w) i 0 ≡ v)
      push-place v k t = elim (ℕ_discrete v w) [
        | yes q ↦ (tail, omega arith, here ∙ sym q)
        | no ne ↦ (let r = F.place v k (ap is_set (sym (get_or-set_other marks w v 1 0 ne)) ∙ t) in (r.0, omega (arith, r.1), before r.0 r.1 ∙ r.2))
      ]

      push-near : (i : ℕ) → i < tail + 1 → (d : ℕ) × (d ≤ i) × Way (walk_step plain kind) (bare m es) d s (get_or (set queue tail w) i 0)
      push-near = set_more (λ i x. (d : ℕ) × (d ≤ i) × Way (walk_step plain kind) (bare m es) d s x) queue tail w (omega (arith, found-room))
          F.near
          (let r = F.near h l in (suc r.0, omega (arith, r.1), way-more (walk_step plain kind) (bare m es) r.0 s (get_or queue h 0) w r.2 hop))

      pub found-push : QueueFound plain kind m n es s (set marks w 1) (set queue tail w) (tail + 1)
      found-push = record {
        vertex = set_more (λ i x. x < n) queue tail w (omega (arith, found-room)) F.vertex b;
        marked = set_more (λ i x. is_set (get_or (set marks w 1) x 0) ≡ true) queue tail w (omega (arith, found-room))
            (λ i k. mark-stays marks w (get_or queue i 0) (omega arith) (F.marked i k))
            (ap is_set (get_or-set_same marks w 1 0 (omega arith)));
        once = push-once;
        place = push-place;
        near = push-near;
      }

-- ---- the edges at the end `off` of u, which stands at h of the queue: those before number e are done

pub record PushingFound (plain : Bool) (kind off m n : ℕ) (es : List ℕ) (s h u : ℕ) (marks₀ queue₀ : List ℕ) (queued : ℕ) (marks queue :
    List ℕ) (tail e : ℕ) : Type 0 where
  pub high : e ≤ m
  pub hit : e < m → edge_end off es e ≡ u
  pub marks-len : length marks ≡ length marks₀
  pub queue-len : length queue ≡ length queue₀
  pub is-u : get_or queue₀ h 0 ≡ u
  pub found : QueueFound plain kind m n es s marks queue tail
  pub grown : MarksGrown marks₀ queue₀ queued marks queue tail
  pub spread : Spread plain kind off es u e marks

spread-next : {plain : Bool} {kind off m : ℕ} {es : List ℕ} {u e e' : ℕ} {marks : List ℕ} → Spread plain kind off es u e marks
    → Next (edge_end off es) m u (e + 1) e'
    → (takes_end kind off ≡ true → passable plain es e ≡ true → is_set (get_or marks (edge_end (1 - off) es e) 0) ≡ true) → Spread plain kind off es u e' marks
spread-next {off = off} {es = es} {u} {e} {marks = marks} S N f = record {
  at = λ j b t p q. by_order e j
      (λ (o : e ≤ j). elim (ℕ_discrete j e) [
        | yes z ↦ ap (λ (x : ℕ). is_set (get_or marks (edge_end (1 - off) es x) 0)) z ∙ f t (ap (passable _ es) (sym z) ∙ p)
        | no ne ↦ absurd (N.skip j (omega arith) b q)
      ])
      (λ (o : j < e). S.at j o t p q);
}

spread-stays : {plain : Bool} {kind off : ℕ} {es : List ℕ} {u e : ℕ} {marks marks' : List ℕ}
    → ((v : ℕ) → is_set (get_or marks v 0) ≡ true → is_set (get_or marks' v 0) ≡ true)
    → Spread plain kind off es u e marks → Spread plain kind off es u e marks'
spread-stays stay S = record { at = λ j b t p q. stay _ (S.at j b t p q) }

module _ {m n : ℕ} {es heads nexts : List ℕ} (X : Indexed m n es heads nexts) {off : ℕ} (o : off ≤ 1) where
  index_at : Index (edge_end off es) m n (pair_at off heads) (pair_at off nexts)
  index_at = X.index off o

  module _ {plain : Bool} {kind s h : ℕ} where
    pub pushing-start : {marks queue : List ℕ} {queued u : ℕ} → QueueFound plain kind m n es s marks queue queued → h < queued → u ≡ get_or queue h 0
        → PushingFound plain kind off m n es s h u marks queue queued marks queue queued (pair_at off heads u)
    pushing-start {marks} {queue} {queued} {u} F l q = let N = index_at.heads u (omega (arith, F.vertex h l)) in record {
      high = N.high;
      hit = N.hit;
      marks-len = refl;
      queue-len = refl;
      is-u = sym q;
      found = F;
      grown = grown-same;
      spread = record { at = λ j b t p r. absurd (N.skip j (omega arith) b r) };
    }

    module _ {u : ℕ} {marks₀ queue₀ : List ℕ} {queued : ℕ} {marks queue : List ℕ} {tail e : ℕ} (P : PushingFound plain
        kind off m n es s h u marks₀ queue₀ queued marks queue tail e) (k : e < m) where
      N : Next (edge_end off es) m u (e + 1) (pair_at off nexts e)
      N = let z = index_at.nexts e k in record {
        low = z.low;
        high = z.high;
        skip = λ j a b q. z.skip j a b (q ∙ sym (P.hit k));
        hit = λ b. z.hit b ∙ P.hit k;
      }

      pub pushing-later : e < pair_at off nexts e
      pushing-later = omega (arith, N.low)

      pub pushing-below : edge_end (1 - off) es e < n
      pushing-below = end_below (1 - off) X.ends e k (omega arith)

      passed : (takes_end kind off ≡ true → passable plain es e ≡ true → is_set (get_or marks (edge_end (1 - off) es e) 0) ≡ true)
          → PushingFound plain kind off m n es s h u marks₀ queue₀ queued marks queue tail (pair_at off nexts e)
      passed f = record {
        high = N.high;
        hit = N.hit;
        marks-len = P.marks-len;
        queue-len = P.queue-len;
        is-u = P.is-u;
        found = P.found;
        grown = P.grown;
        spread = spread-next P.spread N f;
      }

      pub pushing-shut : passable plain es e ≡ false → PushingFound plain kind off m n es s h u marks₀ queue₀ queued marks queue tail (pair_at off nexts e)
      pushing-shut f = passed (λ t p. clash p f)

      pub pushing-seen : {w : ℕ} → w ≡ edge_end (1 - off) es e → is_set (get_or marks w 0) ≡ true
          → PushingFound plain kind off m n es s h u marks₀ queue₀ queued marks queue tail (pair_at off nexts e)
      pushing-seen q t = passed (λ _ _. ap (λ (x : ℕ). is_set (get_or marks x 0)) (sym q) ∙ t)

      module _ (R : Walkable n marks₀ queue₀) {x : ℕ} (is_x : x ≡ edge_end (1 - off) es e) (fresh : is_set (get_or marks x 0) ≡ false) where
        new : is_set (get_or marks (edge_end (1 - off) es e) 0) ≡ false
        new = ap (λ (y : ℕ). is_set (get_or marks y 0)) (sym is_x) ∙ fresh

        pub pushing-room : tail < n
        pushing-room = found-room P.found pushing-below new

        pub pushing-push : h < queued → takes_end kind off ≡ true → passable plain es e ≡ true
            → PushingFound plain kind off m n es s h u marks₀ queue₀ queued (set marks x 1) (set queue tail x) (tail + 1) (pair_at off nexts e)
        pushing-push l t p =
            let w = edge_end (1 - off) es e in
            let r : n ≤ length marks = omega (arith, P.marks-len, R.marks-room) in
            let y : w < length marks = omega (arith, pushing-below) in
            rw is_x (record {
              high = N.high;
              hit = N.hit;
              marks-len = length-set marks w 1 ∙ P.marks-len;
              queue-len = length-set queue tail w ∙ P.queue-len;
              is-u = P.is-u;
              found = found-push P.found pushing-below new r (omega (arith, P.queue-len, R.queue-room)) {h = h} (omega (arith, P.grown.more))
                  (step-hop record {
                    edge = e;
                    below = k;
                    passes = p;
                    off = off;
                    is-end = o;
                    takes = t;
                    here = P.hit k ∙ sym P.is-u
                        ∙ sym (P.grown.queue-stays h l);
                    there = refl;
                  });
              grown = grown-push w y P.grown;
              spread = spread-next (spread-stays (λ v. mark-stays marks w v y) P.spread) N (λ _ _. ap is_set (get_or-set_same marks w 1 0 y));
            })

    pub pushing-end : {u : ℕ} {marks₀ queue₀ : List ℕ} {queued : ℕ} {marks queue : List ℕ} {tail e : ℕ} → PushingFound plain
        kind off m n es s h u marks₀ queue₀ queued marks queue tail e → m ≤ e
        → Pushed plain kind off m n es s h marks₀ queue₀ queued marks queue tail
    pushing-end P l = record { found = P.found; grown = P.grown; spread = record { at = λ j b t p q. P.spread.at j (omega arith) t p (q ∙ P.is-u) } }

pub found_none : {plain : Bool} {kind off m n : ℕ} {es : List ℕ} {s h : ℕ} {marks queue : List ℕ} {tail : ℕ} → QueueFound plain
    kind m n es s marks queue tail → takes_end kind off ≡ false
    → Pushed plain kind off m n es s h marks queue tail marks queue tail
found_none F f = record { found = F; grown = grown-same; spread = record { at = λ j b t p q. clash t f } }

-- ---- both ends of a vertex

module _ {plain : Bool} {kind m n : ℕ} {es : List ℕ} {s h : ℕ} {marks queue : List ℕ} {tail : ℕ} (l : h < tail)
    {marks₁ queue₁ : List ℕ} {tail₁ : ℕ} (A : Pushed plain kind 0 m n es s h marks queue tail marks₁ queue₁ tail₁)
    {marks₂ queue₂ : List ℕ} {tail₂ : ℕ} (B : Pushed plain kind 1 m n es s h marks₁ queue₁ tail₁ marks₂ queue₂ tail₂) where
  step-marked : (off e : ℕ) → off ≤ 1 → e < m → takes_end kind off ≡ true → passable plain es e ≡ true → edge_end off es e ≡ get_or queue h 0
      → is_set (get_or marks₂ (edge_end (1 - off) es e) 0) ≡ true
  step-marked zero e o k t p q = B.grown.marks_stay _ (A.spread.at e k t p q)
  step-marked (suc zero) e o k t p q = B.spread.at e k t p (q ∙ sym (A.grown.queue-stays h l))
  step-marked (suc (suc n)) e o k t p q = absurd (omega arith)

  left-h : (w : ℕ) → Hop (walk_step plain kind) (bare m es) (get_or queue h 0) w → is_set (get_or marks₂ w 0) ≡ true
  left-h w j = let S = hop-step {plain = plain} {kind = kind} {m = m} {es = es} {u = get_or queue h 0} {w = w} j in
      ap (λ (x : ℕ). is_set (get_or marks₂ x 0)) (sym S.there)
      ∙ step-marked S.off S.edge S.is-end S.below S.takes S.passes S.here

  pub vertex-left : VertexLeft plain kind m n es s h marks queue tail marks₂ queue₂ tail₂
  vertex-left = record {
    found = B.found;
    grown = record {
      more = omega (arith, A.grown.more, B.grown.more);
      marks_stay = λ v t. B.grown.marks_stay v (A.grown.marks_stay v t);
      queue-stays = λ i k. B.grown.queue-stays i (omega (arith, A.grown.more)) ∙ A.grown.queue-stays i k;
    };
    left = left-h;
  }

-- ---- the walk

pub record WalkingQueue (plain : Bool) (kind m n : ℕ) (es : List ℕ) (s : ℕ) (marks₀ queue₀ marks queue : List ℕ) (tail h : ℕ) : Type 0 where
  pub high : h ≤ tail
  pub marks-len : length marks ≡ length marks₀
  pub queue-len : length queue ≡ length queue₀
  pub found : QueueFound plain kind m n es s marks queue tail
  pub start : is_set (get_or marks s 0) ≡ true
  pub left : (i : ℕ) → i < h → (w : ℕ) → Hop (walk_step plain kind) (bare m es) (get_or queue i 0) w → is_set (get_or marks w 0) ≡ true

pub walkable-kept : {n : ℕ} {marks marks' queue queue' : List ℕ} → Walkable n marks queue → length marks' ≡ length marks → length queue'
    ≡ length queue → Walkable n marks' queue'
walkable-kept R a b = record { marks-room = omega (arith, R.marks-room); queue-room = omega (arith, R.queue-room); small = R.small }

module _ {plain : Bool} {kind m n : ℕ} {es : List ℕ} {s : ℕ} where
  pub walking_start : {marks₀ : List ℕ} (marks queue : List ℕ) → Cleared marks₀ 0 n marks → s < n → n ≤ length marks → n ≤ length queue
      → WalkingQueue plain kind m n es s (set marks s 1) (set queue 0 s) (set marks s 1) (set queue 0 s) 1 0
  walking_start marks queue C b r y = record {
    high = omega arith;
    marks-len = refl;
    queue-len = refl;
    found = record {
      vertex = λ i l. rw (first i l) b;
      marked = λ i l. ap (λ (x : ℕ). is_set (get_or (set marks s 1) x 0)) (first i l) ∙ mark;
      once = λ i j k l q. omega arith;
      place = λ v k t. (0, omega arith, first 0 (omega arith) ∙ is-s v k t);
      near = λ i l. (0, omega arith, sym (first i l));
    };
    start = mark;
    left = λ i l. absurd (omega arith);
  }
    where
      first : (i : ℕ) → i < 1 → get_or (set queue 0 s) i 0 ≡ s
      first i l = let z : i ≡ 0 = omega arith in rw z (get_or-set_same queue 0 s 0 (omega arith))

      mark : is_set (get_or (set marks s 1) s 0) ≡ true
      mark = ap is_set (get_or-set_same marks s 1 0 (omega arith))

      is-s : (v : ℕ) → v < n → is_set (get_or (set marks s 1) v 0) ≡ true → s ≡ v
      is-s v k t = elim (ℕ_discrete v s) [
        | yes q ↦ sym q
        | no ne ↦ clash t (set-not (get_or-set_other marks s v 1 0 ne ∙ C.none v (omega arith) k))
      ]

  pub walking-more : {marks₀ queue₀ marks queue : List ℕ} {tail h : ℕ} → WalkingQueue plain kind m n es s marks₀ queue₀ marks queue tail h → h < tail
      → {marks' queue' : List ℕ} {tail' : ℕ} → VertexLeft plain kind m n es s h marks queue tail marks' queue' tail' → length marks'
      ≡ length marks → length queue' ≡ length queue
      → WalkingQueue plain kind m n es s marks₀ queue₀ marks' queue' tail' (h + 1)
  walking-more {queue = queue} {h = h} W l {marks'} L a b = record {
    high = omega (arith, L.grown.more);
    marks-len = a ∙ W.marks-len;
    queue-len = b ∙ W.queue-len;
    found = L.found;
    start = L.grown.marks_stay s W.start;
    left = λ i k w j. at i k w (rw (L.grown.queue-stays i (omega arith)) at j);
  }
    where
      at : (i : ℕ) → i < h + 1 → (w : ℕ) → Hop (walk_step plain kind) (bare m es) (get_or queue i 0) w → is_set (get_or marks' w 0) ≡ true
      at i k w j = elim (ℕ_discrete i h) [ yes q ↦ L.left w (rw q at j) | no ne ↦ L.grown.marks_stay w (W.left i (omega arith) w j) ]

  module _ (E : EndsBelow n m es) (b : s < n) {marks₀ queue₀ marks queue : List ℕ} {tail h : ℕ} (W : WalkingQueue plain
      kind m n es s marks₀ queue₀ marks queue tail h) (over : tail ≤ h) where
    hop-below : (u w : ℕ) → Hop (walk_step plain kind) (bare m es) u w → w < n
    hop-below u w j = let S = hop-step {plain = plain} {kind = kind} {m = m} {es = es} {u = u} {w = w} j in
        omega (arith, S.there, end_below (1 - S.off) E S.edge S.below (omega arith))

    way-marked : (d u v : ℕ) → u < n → is_set (get_or marks u 0) ≡ true → Way (walk_step plain kind) (bare m es) d u v → is_set (get_or marks v 0) ≡ true
    way-marked zero u v k t q = rw q at t
    way-marked (suc d) u v k t (w, j, y) =
        let r = W.found.place u k t in
        way-marked d w v (hop-below u w j) (W.left r.0 (omega (arith, r.1)) w (rw (← r.2) at j)) y

    pub walking-end : Reached plain kind m n es s marks
    walking-end = record {
      at = λ k vs p v l. both_ways (is_set (get_or marks v 0)) (elem_of v (reached (walk_step plain kind) (graph_in k n m es vs p) s))
          (λ t. let r = W.found.place v l t in
          let y = W.found.near r.0 r.1 in
          short-reached (walk_step plain kind) (graph_in k n m es vs p) (λ u w j. omega (arith, order-in k n m es vs p, hop-below u w j))
          y.0 s v (omega (arith, order-in k n m es vs p, y.1, r.1, found-most W.found)) (omega (arith, order-in k n m es vs p)) (rw r.2 at y.2))
          (λ t. let r = of-reached (walk_step plain kind) (graph_in k n m es vs p) s v t in way-marked r.0 s v b W.start r.1);
    }
