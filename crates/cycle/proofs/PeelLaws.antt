-- The loops of a peeling, and what its end says of cycles. Assumes nothing.
use mathlib.Core.Path.{◌≡◌, refl, sym, ap, ◌∙◌}
use mathlib.Core.Bool.{Bool, true, false, ◌&&◌}
use mathlib.Core.List.{List, Memᴰ}
use mathlib.Core.Logic.{⊎_elim}
use Prim.Native.Nat.{ℕ, zero, suc, ◌+◌, ◌*◌, ◌-◌, ◌≤◌, ◌<◌}
use native.Mathlib.Omega.{arith}
use native.Mathlib.Decide.{ℕ_discrete}
use lib.Dec.{eqb, ltb, leb}
use lib.ListN.{length, get_or, set, length-set}
use lib.Seq.{get_or-set_same, get_or-set_other}
use borrow.Author.Tests.{lt-ltb, le-ltb, le-leb, lt-leb, leb-true, leb-false}
use Rattle.defs.specs.Lists.{tab, tab_from, keep_if, rank}
use Rattle.defs.specs.SeqGraph.{Edge}
use Rattle.defs.specs.Refusals.{has_cycle}
use Rattle.laws.proofs.ListLaws.{by_order}
use Rattle.laws.proofs.Counts.{Distinct}
use Rattle.laws.proofs.Nets.{Ranks, Bounded}
use Rattle.laws.proofs.Cycles.{Closed, distinct-length, rounds, ranked-or-closed}
use Rattle.tabs.proofs.Tabs.{length-tab, set_more}
use Rattle.tabs.proofs.ListTabs.{mem-tab, of-mem-tab}
use Rattle.store.specs.Store.{edge_in, graph_in, EndsBelow}
use Rattle.compact.proofs.CompactLaws.{order-in, ends-mem}
use Rattle.index.specs.Index.{edge_end, incident_edges, pair_at, Next, Index, Indexed}
use Rattle.index.proofs.IndexLaws.{end_below, pair-first, end-first}
use Rattle.cycle.specs.Peel.{Peelable, DegreesCounted, stands, entering, Queued, Peeling, Sourced, HasCycle}
use Rattle.cycle.proofs.CycleLaws.{ranked-no-cycle, closed-cycle}
use Rattle.tabs.proofs.Ranks.{rank_same, rank_most, rank-none, rank-find, length-kept, distinct-tab}
use Rattle.cycle.proofs.QueueLaws.{stands-later, stands-yes, stands-move, stands-turn, of-entering, place_at, at_same, at_other}
use Rattle.cycle.proofs.QueueLaws.{queue-room, queued-as, queued-push, queued-take, entered-some, entered-out}

-- ---- the degrees

degree-rank : (f : ℕ → ℕ) (m v : ℕ) → length (incident_edges f m v) ≡ rank (λ (e : ℕ). eqb (f e) v) m
degree-rank f m v = ap (λ (x : ℕ). length (keep_if (λ (e : ℕ). eqb (f e) v) (tab_from 0 x (λ (e : ℕ). e)))) (omega arith) ∙ length-kept (λ (e : ℕ). eqb (f e) v) m

pub degree-most : (f : ℕ → ℕ) (m v : ℕ) → length (incident_edges f m v) ≤ m
degree-most f m v = omega (arith, degree-rank f m v, rank_most (λ (e : ℕ). eqb (f e) v) m)

pub record Counting (m n : ℕ) (es degrees₀ degrees : List ℕ) (v : ℕ) : Type 0 where
  pub high : v ≤ n
  pub len : length degrees ≡ length degrees₀
  pub done : DegreesCounted m v es degrees

pub counting-start : {m n : ℕ} {es degrees : List ℕ} → Counting m n es degrees degrees 0
counting-start = record { high = omega arith; len = refl; done = record { at = λ v b. absurd (omega arith) } }

pub counting_more : {m n : ℕ} {es degrees₀ degrees : List ℕ} {v d : ℕ} → Counting m n es degrees₀ degrees v → v < n → n ≤ length degrees₀
    → d ≡ length (incident_edges (edge_end 1 es) m v)
    → Counting m n es degrees₀ (set degrees v d) (v + 1)
counting_more {m} {n} {es} {degrees₀} {degrees} {v} {d} C h room q = record {
  high = omega arith;
  len = length-set degrees v d ∙ C.len;
  done = record { at = set_more (λ u x. x ≡ length (incident_edges (edge_end 1 es) m u)) degrees v d (omega (arith, C.len)) C.done.at q };
}

pub counting-end : {m n : ℕ} {es degrees₀ degrees : List ℕ} {v : ℕ} → Counting m n es degrees₀ degrees v → n ≤ v → DegreesCounted m n es degrees
counting-end C l = record { at = λ v b. C.done.at v (omega arith) }

-- ---- the first vertices of the queue

-- of the vertices before v, those of degree 0 are queued
pub record Source (m n : ℕ) (es degrees queue : List ℕ) (tail v : ℕ) : Type 0 where
  pub place : ℕ → ℕ
  pub queued : Queued m n es degrees queue place 0 0 tail
  pub zero : (u : ℕ) → u < v → get_or degrees u 0 ≡ 0 → place u < tail
  pub fresh : (u : ℕ) → v ≤ u → u < n → tail ≤ place u

pub record Sourcing (n : ℕ) (degrees queue₀ queue : List ℕ) (tail v : ℕ) : Type 0 where
  pub high : v ≤ n
  pub low : tail ≤ v
  pub len : length queue ≡ length queue₀
  pub is : (m : ℕ) (es : List ℕ) → EndsBelow n m es → DegreesCounted m n es degrees → Source m n es degrees queue tail v

and-all : (a : Bool) {b : Bool} → b ≡ true → a ≡ (a && b)
and-all true t = sym t
and-all false t = refl

pub sourcing-start : {n : ℕ} {degrees queue : List ℕ} → Sourcing n degrees queue queue 0 0
unfolding entering
sourcing-start {n} {degrees} {queue} = record { high = omega arith; low = omega arith; len = refl; is = start }
  where
    start : (m : ℕ) (es : List ℕ) → EndsBelow n m es → DegreesCounted m n es degrees → Source m n es degrees queue 0 0
    start m es E C = record {
      place = λ v. n;
      queued = record {
        high = omega arith;
        vertex = λ i b. absurd (omega arith);
        placed = λ i b. absurd (omega arith);
        found = λ v b l. absurd (omega arith);
        out = λ v b l. omega arith;
        count = λ v b. C.at v b ∙ degree-rank (edge_end 1 es) m v
            ∙ rank_same (λ (e : ℕ). eqb (edge_end 1 es e) v) (entering es (λ u. n) 0 0 v) m (λ e k.
            and-all (eqb (edge_end 1 es e) v) (stands-later 0 0 n e (omega arith)));
        done = λ v b l. absurd (omega arith);
        order = λ e b l. absurd (omega arith);
      };
      zero = λ u b. absurd (omega arith);
      fresh = λ u a b. omega arith;
    }

module _ {n : ℕ} {degrees queue₀ queue : List ℕ} {tail v : ℕ} (S : Sourcing n degrees queue₀ queue tail v) (h : v < n) where
  pub sourcing-push : n ≤ length queue₀ → get_or degrees v 0 ≡ 0 → Sourcing n degrees queue₀ (set queue tail v) (tail + 1) (v + 1)
  sourcing-push room z = record { high = omega arith; low = omega (arith, S.low); len = length-set queue tail v ∙ S.len; is = pushed }
    where
      pushed : (m : ℕ) (es : List ℕ) → EndsBelow n m es → DegreesCounted m n es degrees → Source m n es degrees (set queue tail v) (tail + 1) (v + 1)
      pushed m es E C =
          let s = S.is m es E C in
          let new = s.fresh v (omega arith) h in
          record {
            place = place_at s.place v tail;
            queued = queued-push s.queued E (λ q. refl) h new z (omega (arith, S.len));
            zero = λ u b y. elim (ℕ_discrete u v) [
              | yes q ↦ rw (q, at_same s.place v tail) (omega arith)
              | no ne ↦ omega (arith, at_other s.place v tail u ne, s.zero u (omega arith) y)
            ];
            fresh = λ u a b. omega (
              arith,
              at_other s.place v tail u (λ q. omega arith),
              s.queued.out u b (s.fresh u (omega arith) b),
              queue-room s.queued v h new,
            );
          }

  pub sourcing-pass : (get_or degrees v 0 ≡ 0 → ⊥) → Sourcing n degrees queue₀ queue tail (v + 1)
  sourcing-pass nz = record {
    high = omega arith;
    low = omega (arith, S.low);
    len = S.len;
    is = λ m es E C. let s = S.is m es E C in record {
      place = s.place;
      queued = s.queued;
      zero = λ u b y. elim (ℕ_discrete u v) [ yes q ↦ absurd (nz (ap (λ (x : ℕ). get_or degrees x 0) (sym q) ∙ y)) | no ne ↦ s.zero u (omega arith) y ];
      fresh = λ u a b. s.fresh u (omega arith) b;
    };
  }

pub sourcing-end : {n : ℕ} {degrees queue₀ queue : List ℕ} {tail v : ℕ} → Sourcing n degrees queue₀ queue tail v → n ≤ v → Sourced n degrees tail queue
sourcing-end S l = record { is = λ m es E C. let s = S.is m es E C in record { place = s.place; queued = s.queued; zero = λ u b. s.zero u (omega arith) } }

-- ---- the edges of the vertex u, which stands at h of the queue: those before number e are gone

pub record TakingEdges (m n : ℕ) (es : List ℕ) (h u : ℕ) (degrees₀ degrees queue₀ queue : List ℕ) (tail e : ℕ) : Type 0 where
  pub high : e ≤ m
  pub hit : e < m → edge_end 0 es e ≡ u
  pub degrees-len : length degrees ≡ length degrees₀
  pub queue-len : length queue ≡ length queue₀
  pub later : h < tail
  pub vertex : u < n
  pub is-u : get_or queue h 0 ≡ u
  pub peeling : Peeling m n es degrees queue h e tail

module _ {m n : ℕ} {es heads nexts : List ℕ} (X : Indexed m n es heads nexts) where
  outward : Index (edge_end 0 es) m n (pair_at 0 heads) (pair_at 0 nexts)
  outward = X.index 0 (omega arith)

  -- an edge from place h is one of u's
  from-u : {degrees queue : List ℕ} {place : ℕ → ℕ} {h c tail u : ℕ} → Queued m n es degrees queue place h c tail → h < tail → get_or queue h 0 ≡ u
      → (x : ℕ) → x < m → place (edge_end 0 es x) ≡ h → edge_end 0 es x ≡ u
  from-u {queue = queue} Q l q x k p = sym (Q.found (edge_end 0 es x) (end_below 0 X.ends x k (omega arith)) (omega arith))
      ∙ ap (λ (i : ℕ). get_or queue i 0) p ∙ q

  pub taking-start : {degrees queue : List ℕ} {h tail e u : ℕ} → h < tail → Peeling m n es degrees queue h 0 tail → u ≡ get_or queue h 0 → e
      ≡ get_or heads (2 * u) 0 → TakingEdges m n es h u degrees degrees queue queue tail e
  taking-start {degrees} {queue} {h} {tail} {e} {u} l P qu q = rw (q ∙ pair-first heads u) (record {
    high = N.high;
    hit = N.hit;
    degrees-len = refl;
    queue-len = refl;
    later = l;
    vertex = below;
    is-u = sym qu;
    peeling = record { place = P.place; queued = queued-as P.queued P.queued.high same; zero = P.zero };
  })
    where
      below : u < n
      below = omega (arith, P.queued.vertex h l)

      N : Next (edge_end 0 es) m u 0 (pair_at 0 heads u)
      N = outward.heads u below

      same : (x : ℕ) → x < m → stands h 0 (P.place (edge_end 0 es x)) x ≡ stands h (pair_at 0 heads u) (P.place (edge_end 0 es x)) x
      same x k = stands-move h 0 (pair_at 0 heads u) (P.place (edge_end 0 es x)) x (λ p.
          by_order (pair_at 0 heads u) x
          (λ o. le-leb 0 x (omega arith) ∙ sym (le-leb (pair_at 0 heads u) x o))
          (λ o. absurd (N.skip x (omega arith) o (from-u P.queued l (sym qu) x k p))))

  module _ {h u : ℕ} {degrees₀ degrees queue₀ queue : List ℕ} {tail e : ℕ} (T : TakingEdges m n es h u degrees₀ degrees queue₀ queue tail e) (k : e < m) where
    P : Peeling m n es degrees queue h e tail
    P = T.peeling

    entered : edge_end 1 es e < n
    entered = end_below 1 X.ends e k (omega arith)

    at-h : P.place (edge_end 0 es e) ≡ h
    at-h = ap P.place (T.hit k ∙ sym T.is-u) ∙ P.queued.placed h T.later

    after-e : e < pair_at 0 nexts e
    after-e = omega (arith, (outward.nexts e k).low)

    same : (x : ℕ) → x < m → (x ≡ e → ⊥) → stands h e (P.place (edge_end 0 es x)) x ≡ stands h (pair_at 0 nexts e) (P.place (edge_end 0 es x)) x
    same x b ne = stands-move h e (pair_at 0 nexts e) (P.place (edge_end 0 es x)) x (λ p.
        by_order e x
        (λ o. by_order (pair_at 0 nexts e) x
        (λ o'. le-leb e x o ∙ sym (le-leb (pair_at 0 nexts e) x o'))
        (λ o'. absurd ((outward.nexts e k).skip x (omega arith) o' (from-u P.queued T.later T.is-u x b p ∙ sym (T.hit k)))))
        (λ o. lt-leb e x o ∙ sym (lt-leb (pair_at 0 nexts e) x (omega (arith, after-e)))))

    pub taken-some : {to : ℕ} → to ≡ edge_end 1 es e → n ≤ length degrees₀ → 0 < get_or degrees to 0
    taken-some t room = rw t (entered-some P.queued entered k at-h (omega arith) after-e (omega (arith, T.degrees-len)) same)

    pub taking-later : e < get_or nexts (2 * e) 0
    taking-later = omega (arith, after-e, pair-first nexts e)

    module _ (room : n ≤ length degrees₀) where
      room' : n ≤ length degrees
      room' = omega (arith, T.degrees-len)

      new : tail ≤ P.place (edge_end 1 es e)
      new = entered-out P.queued entered k at-h (omega arith) after-e room' same

      queued : Queued m n es (set degrees (edge_end 1 es e) (get_or degrees (edge_end 1 es e) 0 - 1)) queue P.place h (pair_at 0 nexts e) tail
      queued = queued-take P.queued entered k at-h (omega arith) after-e room' same

      stored : get_or (set degrees (edge_end 1 es e) (get_or degrees (edge_end 1 es e) 0 - 1)) (edge_end 1 es e) 0 ≡ get_or degrees (edge_end 1 es e) 0 - 1
      stored = get_or-set_same degrees (edge_end 1 es e) _ 0 (omega (arith, entered, room'))

      other-zero : (v : ℕ) → v < n → (v ≡ edge_end 1 es e → ⊥) → get_or (set degrees (edge_end 1 es e) (get_or degrees (edge_end 1 es e) 0 - 1)) v 0 ≡ 0 → P.place v < tail
      other-zero v b ne z = P.zero v b (sym (get_or-set_other degrees (edge_end 1 es e) v _ 0 ne) ∙ z)

      pub taken-fits : tail < n
      taken-fits = queue-room P.queued (edge_end 1 es e) entered new

      next-hit : pair_at 0 nexts e < m → edge_end 0 es (pair_at 0 nexts e) ≡ u
      next-hit b = (outward.nexts e k).hit b ∙ T.hit k

      pub taking-pass : {e' to : ℕ} → to ≡ edge_end 1 es e → (get_or degrees to 0 - 1 ≡ 0 → ⊥) → e' ≡ get_or nexts (2 * e) 0
          → TakingEdges m n es h u degrees₀ (set degrees to (get_or degrees to 0 - 1)) queue₀ queue tail e'
      taking-pass t nz q = rw (t, q ∙ pair-first nexts e) (record {
        high = (outward.nexts e k).high;
        hit = next-hit;
        degrees-len = length-set degrees (edge_end 1 es e) _ ∙ T.degrees-len;
        queue-len = T.queue-len;
        later = T.later;
        vertex = T.vertex;
        is-u = T.is-u;
        peeling = record {
          place = P.place;
          queued = queued;
          zero = λ v b z. elim (ℕ_discrete v (edge_end 1 es e)) [
            | yes s ↦
                let less : List ℕ = set degrees (edge_end 1 es e) (get_or degrees (edge_end 1 es e) 0 - 1) in
                absurd (nz (ap (λ (x : ℕ). get_or degrees x 0 - 1) t ∙ sym stored ∙ ap (λ (x : ℕ). get_or less x 0) (sym s) ∙ z))
            | no ne ↦ other-zero v b ne z
          ];
        };
      })

      pub taking-push : {e' to : ℕ} → to ≡ edge_end 1 es e → n ≤ length queue₀ → get_or degrees to 0 - 1 ≡ 0 → e' ≡ get_or nexts (2 * e) 0
          → TakingEdges m n es h u degrees₀ (set degrees to (get_or degrees to 0 - 1)) queue₀ (set queue tail to) (tail + 1) e'
      taking-push t roomq z q = rw (t, q ∙ pair-first nexts e) (record {
        high = (outward.nexts e k).high;
        hit = next-hit;
        degrees-len = length-set degrees (edge_end 1 es e) _ ∙ T.degrees-len;
        queue-len = length-set queue tail (edge_end 1 es e) ∙ T.queue-len;
        later = omega (arith, T.later);
        vertex = T.vertex;
        is-u = get_or-set_other queue tail h (edge_end 1 es e) 0 (λ s. omega (arith, T.later)) ∙ T.is-u;
        peeling = record {
          place = place_at P.place (edge_end 1 es e) tail;
          queued = queued-push queued X.ends (λ s. absurd (omega (arith, T.later))) entered new
              (stored ∙ ap (λ (x : ℕ). get_or degrees x 0 - 1) (sym t) ∙ z) (omega (arith, T.queue-len));
          zero = λ v b y. elim (ℕ_discrete v (edge_end 1 es e)) [
            | yes s ↦ rw (s, at_same P.place (edge_end 1 es e) tail) (omega arith)
            | no ne ↦ omega (arith, at_other P.place (edge_end 1 es e) tail v ne, other-zero v b ne y)
          ];
        };
      })

  pub taking-end : {h u : ℕ} {degrees₀ degrees queue₀ queue : List ℕ} {tail e : ℕ} → TakingEdges m n es h u degrees₀ degrees queue₀ queue tail e
      → m ≤ e → Peeling m n es degrees queue (h + 1) 0 tail
  taking-end {h} {e = e} T l =
      let q : e ≡ m = omega (arith, T.high) in
      let P = T.peeling in
      record {
        place = P.place;
        queued = queued-as P.queued (omega (arith, T.later)) (λ x k. rw q (stands-turn h m (P.place (edge_end 0 es x)) x k));
        zero = P.zero;
      }

-- ---- the end: all are queued, or a cycle is left

module _ {m n : ℕ} {es degrees queue : List ℕ} {h tail : ℕ} (E : EndsBelow n m es) (P : Peeling m n es degrees queue h 0 tail) (over :
    tail ≤ h) (k : ℕ) (vs p : List ℕ) where
  bounded : Bounded (graph_in k n m es vs p)
  bounded e i = rw (order-in k n m es vs p) (ends-mem E e i)

  all-ranked : n ≤ tail → Ranks (graph_in k n m es vs p) P.place
  all-ranked all u v (e, i, q, r) =
      let j = of-mem-tab m (edge_in es) i in
      let a : u ≡ edge_end 0 es j.0 = sym q ∙ ap (λ (x : Edge). x.from) j.2 ∙ sym (end-first es j.0) in
      let b : v ≡ edge_end 1 es j.0 = sym r ∙ ap (λ (x : Edge). x.to) j.2 in
      rw (a, b) (P.queued.order j.0 j.1 (by_order tail (P.place (edge_end 1 es j.0))
      (λ l. absurd (omega (arith, queue-room P.queued (edge_end 1 es j.0) (end_below 1 E j.0 j.1 (omega arith)) l)))
      (λ l. l)))

  -- a vertex that is left has a predecessor that is left, so no rank rises along all edges
  descent : (r : ℕ → ℕ) → Ranks (graph_in k n m es vs p) r → (i v : ℕ) → r v < i → v < n → tail ≤ P.place v → ⊥
  descent r ranks zero v l b o = omega arith
  descent r ranks (suc i) v l b o = rank-find (entering es P.place h 0 v) m
      (λ z. omega (arith, P.zero v b (P.queued.count v b ∙ z)))
      (λ e j t. let s = of-entering es P.place h 0 v e t in
      let y = ranks (edge_end 0 es e) v (edge_in es e, mem-tab m (edge_in es) e j, sym (end-first es e), s.0) in
      descent r ranks i (edge_end 0 es e) (omega arith) (end_below 0 E e j (omega arith)) (omega (arith, stands-yes h 0 (P.place (edge_end 0 es e)) e s.1)))

  -- a vertex is left where there are more than were queued
  left-closed : tail < n → Closed (graph_in k n m es vs p)
  left-closed few = rank-find (λ (v : ℕ). leb tail (P.place v)) n
      (λ z. absurd (omega (arith, distinct-length tail (tab n P.place) (distinct z) (below z), length-tab n P.place)))
      (λ v b t. ⊎_elim (λ r. absurd (descent _ r (suc (rounds (graph_in k n m es vs p) bounded v)) v (omega arith) b
      (leb-true tail (P.place v) t))) (λ c. c) (ranked-or-closed (graph_in k n m es vs p) bounded))
    where
      inside : rank (λ (v : ℕ). leb tail (P.place v)) n ≡ 0 → (v : ℕ) → v < n → P.place v < tail
      inside z v b = leb-false tail (P.place v) (rank-none (λ (v : ℕ). leb tail (P.place v)) n v z b)

      distinct : rank (λ (v : ℕ). leb tail (P.place v)) n ≡ 0 → Distinct (tab n P.place)
      distinct z = distinct-tab P.place n (λ i j a b q. sym (P.queued.found i a (inside z i a)) ∙ ap (λ (x : ℕ). get_or queue x 0) q
          ∙ P.queued.found j b (inside z j b))

      below : rank (λ (v : ℕ). leb tail (P.place v)) n ≡ 0 → (x : ℕ) → Memᴰ x (tab n P.place) → x < tail
      below z x i = let j = of-mem-tab n P.place i in rw j.2 (inside z j.0 j.1)

  peeled : ltb 0 (n - tail) ≡ has_cycle (graph_in k n m es vs p)
  peeled = by_order n tail
      (λ l. le-ltb 0 (n - tail) (omega arith) ∙ sym (ranked-no-cycle (graph_in k n m es vs p) P.place (all-ranked l)))
      (λ l. lt-ltb 0 (n - tail) (omega arith) ∙ sym (closed-cycle (graph_in k n m es vs p) bounded (left-closed l)))

pub peeling-end : {m n : ℕ} {es degrees queue : List ℕ} {h tail : ℕ} → EndsBelow n m es → Peeling m n es degrees queue h 0 tail → tail ≤ h
    → HasCycle m n es (ltb 0 (n - tail))
peeling-end E P over = record { is = λ k vs p. peeled E P over k vs p }

-- ---- the rounds

pub record Peels (m n : ℕ) (es degrees₀ degrees queue₀ queue : List ℕ) (h tail : ℕ) : Type 0 where
  pub degrees-len : length degrees ≡ length degrees₀
  pub queue-len : length queue ≡ length queue₀
  pub peeling : Peeling m n es degrees queue h 0 tail

pub peelable-kept : {n : ℕ} {degrees degrees' queue queue' : List ℕ} → Peelable n degrees queue → length degrees' ≡ length degrees
    → length queue' ≡ length queue → Peelable n degrees' queue'
peelable-kept K a b = record { degrees-room = omega (arith, K.degrees-room); queue-room = omega (arith, K.queue-room); small = K.small }
