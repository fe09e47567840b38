-- The queue of a peeling: a vertex more at its end, an edge less into a vertex. Assumes nothing.
use mathlib.Core.Path.{◌≡◌, refl, sym, ap, ◌∙◌}
use mathlib.Core.Bool.{Bool, true, false, cond, ◌&&◌, ◌||◌}
use mathlib.Core.List.Memᴰ
use mathlib.Core.List.{List, ◌∷◌, Memᴰ}
use mathlib.Core.Logic.{⊎_elim}
use Prim.Native.Nat.{ℕ, suc, ◌+◌, ◌-◌, ◌≤◌, ◌<◌}
use native.Mathlib.Omega.{arith}
use native.Mathlib.Decide.{ℕ_discrete}
use lib.Dec.{eqb, ltb, leb}
use lib.ListN.{length, get_or, set}
use lib.Seq.{get_or-set_same, get_or-set_other}
use borrow.Author.Tests.{eqb-true, eq-eqb, ne_eqb, lt-ltb, le-ltb, le-leb, lt-leb}
use Rattle.laws.proofs.ListLaws.{clash, by_order, and_split, and-true}
use Rattle.laws.proofs.Counts.{Distinct}
use Rattle.laws.proofs.Cycles.{distinct-length}
use Rattle.defs.specs.Lists.{tab, rank}
use Rattle.tabs.proofs.Tabs.{length-tab, set_more, and-no-left, and-no-right}
use Rattle.tabs.proofs.ListTabs.{of-mem-tab}
use Rattle.store.specs.Store.{EndsBelow}
use Rattle.index.specs.Index.{edge_end}
use Rattle.index.proofs.IndexLaws.{end_below}
use Rattle.cycle.specs.Peel.{stands, entering, Queued}
use Rattle.tabs.proofs.Ranks.{rank_same, rank_less, rank-none, distinct-tab}

-- ---- an edge that stands

module _ (h c p e : ℕ) where
  pub stands-later : h < p → stands h c p e ≡ true
  unfolding stands
  stands-later l = rw (lt-ltb h p l)

  pub stands_same : p ≡ h → c ≤ e → stands h c p e ≡ true
  unfolding stands
  stands_same q l = rw (le-ltb h p (omega arith), eq-eqb p h q, le-leb c e l)

  pub stands-gone : p < h → stands h c p e ≡ false
  unfolding stands
  stands-gone l = rw (le-ltb h p (omega arith), ne_eqb p h (λ z. omega arith))

  pub stands-passed : p ≡ h → e < c → stands h c p e ≡ false
  unfolding stands
  stands-passed q l = rw (le-ltb h p (omega arith), eq-eqb p h q, lt-leb c e l)

  pub stands-no : {X : Type 0} → stands h c p e ≡ false → (p < h → X) → (p ≡ h → e < c → X) → X
  stands-no f gone passed = elim (ℕ_discrete p h) [
    | yes q ↦ by_order c e (λ l. clash (stands_same q l) f) (λ l. passed q l)
    | no ne ↦ by_order p h (λ l. gone (omega arith)) (λ l. clash (stands-later l) f)
  ]

  pub stands-yes : stands h c p e ≡ true → h ≤ p
  stands-yes t = by_order h p (λ l. l) (λ l. clash t (stands-gone l))

-- the cursor matters only at place h
pub stands-move : (h c c' p e : ℕ) → (p ≡ h → leb c e ≡ leb c' e) → stands h c p e ≡ stands h c' p e
unfolding stands
stands-move h c c' p e same = elim (ℕ_discrete p h) [
  | yes q ↦ ap (λ (b : Bool). ltb h p || (eqb p h && b)) (same q)
  | no ne ↦ rw (ne_eqb p h ne)
]

-- past the last edge of place h the next place begins
pub stands-turn : (h m p e : ℕ) → e < m → stands h m p e ≡ stands (h + 1) 0 p e
stands-turn h m p e l = by_order p h
    (λ b. elim (ℕ_discrete p h) [
      | yes q ↦ stands-passed h m p e q l ∙ sym (stands-gone (h + 1) 0 p e (omega arith))
      | no ne ↦ stands-gone h m p e (omega arith) ∙ sym (stands-gone (h + 1) 0 p e (omega arith))
    ])
    (λ b. stands-later h m p e b ∙ sym (elim (ℕ_discrete p (h + 1)) [
      | yes q ↦ stands_same (h + 1) 0 p e q (omega arith)
      | no ne ↦
          stands-later (h + 1) 0 p e (omega arith)
    ]))

-- ---- an edge that enters v

module _ (es : List ℕ) (place : ℕ → ℕ) (h c v e : ℕ) where
  pub entering-yes : edge_end 1 es e ≡ v → stands h c (place (edge_end 0 es e)) e ≡ true → entering es place h c v e ≡ true
  unfolding entering
  entering-yes q t = and-true _ _ (eq-eqb _ _ q) t

  pub of-entering : entering es place h c v e ≡ true → (edge_end 1 es e ≡ v) × (stands h c (place (edge_end 0 es e)) e ≡ true)
  unfolding entering
  of-entering t = let s = and_split _ _ t in (eqb-true _ _ s.0, s.1)

  pub entering-no : stands h c (place (edge_end 0 es e)) e ≡ false → entering es place h c v e ≡ false
  unfolding entering
  entering-no f = and-no-right (eqb (edge_end 1 es e) v) f

  entering-other : (edge_end 1 es e ≡ v → ⊥) → entering es place h c v e ≡ false
  unfolding entering
  entering-other ne = and-no-left _ (ne_eqb _ _ ne)

  -- no edge into v stands
  not-entering : edge_end 1 es e ≡ v → entering es place h c v e ≡ false → stands h c (place (edge_end 0 es e)) e ≡ false
  unfolding entering
  not-entering q f = rw (eq-eqb (edge_end 1 es e) v q) at f

entering-same : (es : List ℕ) (place place' : ℕ → ℕ) (h c h' c' v e : ℕ) → stands h c (place (edge_end 0 es e)) e ≡ stands h' c' (place' (edge_end 0 es e)) e
    → entering es place h c v e ≡ entering es place' h' c' v e
unfolding entering
entering-same es place place' h c h' c' v e q = ap (λ (b : Bool). eqb (edge_end 1 es e) v && b) q

-- ---- a place more

unfoldable pub place_at : (ℕ → ℕ) → ℕ → ℕ → ℕ → ℕ
place_at place v t x = cond (eqb x v) t (place x)

pub at_same : (place : ℕ → ℕ) (v t : ℕ) → place_at place v t v ≡ t
unfolding place_at
at_same place v t = rw (eq-eqb v v refl)

pub at_other : (place : ℕ → ℕ) (v t x : ℕ) → (x ≡ v → ⊥) → place_at place v t x ≡ place x
unfolding place_at
at_other place v t x ne = rw (ne_eqb x v ne)

module _ {m n : ℕ} {es degrees queue : List ℕ} {place : ℕ → ℕ} {h c tail : ℕ} (Q : Queued m n es degrees queue place h c tail) where
  queue-distinct : Distinct (tab tail (λ (i : ℕ). get_or queue i 0))
  queue-distinct = distinct-tab (λ (i : ℕ). get_or queue i 0) tail (λ i j a b q. sym (Q.placed i a) ∙ ap place q ∙ Q.placed j b)

  queue-below : (v : ℕ) → Memᴰ v (tab tail (λ (i : ℕ). get_or queue i 0)) → (v < n) × (place v < tail)
  queue-below v k = let r = of-mem-tab tail (λ (i : ℕ). get_or queue i 0) k in rw r.2 (Q.vertex r.0 r.1, omega (arith, Q.placed r.0 r.1, r.1))

  pub queue-most : tail ≤ n
  queue-most = omega (
    arith,
    distinct-length n (tab tail (λ (i : ℕ). get_or queue i 0)) queue-distinct (λ v k. (queue-below v k).0),
    length-tab tail (λ (i : ℕ). get_or queue i 0),
  )

  -- while a vertex is not queued, there is room for it
  pub queue-room : (v : ℕ) → v < n → tail ≤ place v → tail < n
  queue-room v b l =
      omega (
        arith,
        distinct-length n (v ∷ tab tail (λ (i : ℕ). get_or queue i 0)) (λ k. omega (arith, (queue-below v k).1), queue-distinct)
            (λ x k. ⊎_elim (λ (q : x ≡ v). omega arith) (λ j. (queue-below x j).0) (Memᴰ.cases_cons k)),
        length-tab tail (λ (i : ℕ). get_or queue i 0),
      )

  pub queued-as : {h' c' : ℕ} → h' ≤ tail → ((e : ℕ) → e < m → stands h c (place (edge_end 0 es e)) e ≡ stands h' c' (place (edge_end 0 es e)) e)
      → Queued m n es degrees queue place h' c' tail
  queued-as {h'} {c'} l same = record {
    high = l;
    vertex = Q.vertex;
    placed = Q.placed;
    found = Q.found;
    out = Q.out;
    count = λ v b. Q.count v b ∙ rank_same (entering es place h c v) (entering es place h' c' v) m (λ e k.
        entering-same es place place h c h' c' v e (same e k));
    done = Q.done;
    order = Q.order;
  }

  -- ---- v is queued, which no standing edge enters
  module _ (E : EndsBelow n m es) (first : tail ≡ h → c ≡ 0) {v : ℕ} (b : v < n) (new : tail ≤ place v) (none : get_or degrees v 0
      ≡ 0) (room : n ≤ length queue) where
    fits : tail < n
    fits = queue-room v b new

    still : (x : ℕ) → x < n → (x ≡ v → ⊥) → place_at place v tail x < tail + 1 → place x < tail
    still x k ne l = by_order tail (place x)
        (λ o. absurd (omega (arith, Q.out x k o, at_other place v tail x ne, fits)))
        (λ o. o)

    push-placed : (i : ℕ) → i < tail + 1 → place_at place v tail (get_or (set queue tail v) i 0) ≡ i
    push-placed = set_more (λ i x. place_at place v tail x ≡ i) queue tail v (omega (arith, fits))
        (λ i k. at_other place v tail (get_or queue i 0) (λ q. omega (arith, ap place q, Q.placed i k)) ∙ Q.placed i k)
        (at_same place v tail)

    push-found : (x : ℕ) → x < n → place_at place v tail x < tail + 1 → get_or (set queue tail v) (place_at place v tail x) 0 ≡ x
    push-found x k l = elim (ℕ_discrete x v) [
      | yes q ↦ rw (q, at_same place v tail) (get_or-set_same queue tail v 0 (omega (arith, fits)))
      | no ne ↦ rw (at_other place v tail x ne) (get_or-set_other queue tail (place x) v 0 (λ z. omega (arith, still x k ne l)) ∙ Q.found x k (still x k ne l))
    ]

    push-out : (x : ℕ) → x < n → tail + 1 ≤ place_at place v tail x → n ≤ place_at place v tail x
    push-out x k l = elim (ℕ_discrete x v) [
      | yes q ↦ absurd (omega (arith, ap (place_at place v tail) q, at_same place v tail))
      | no ne ↦ omega (arith, at_other place v tail x ne, Q.out x k (omega (arith, at_other place v tail x ne)))
    ]

    stands-pushed : (e : ℕ) → e < m → stands h c (place (edge_end 0 es e)) e ≡ stands h c (place_at place v tail (edge_end 0 es e)) e
    stands-pushed e k = elim (ℕ_discrete (edge_end 0 es e) v) [
      | yes q ↦ stands-later h c (place (edge_end 0 es e)) e (omega (arith, ap place q, Q.out v b new, fits, Q.high)) ∙ sym (elim (ℕ_discrete tail h) [
        | yes t ↦ stands_same h c (place_at place v tail (edge_end 0 es e)) e (ap (place_at place v tail) q ∙ at_same place v tail ∙ t) (omega (arith, first t))
        | no ne ↦ stands-later h c (place_at place v tail (edge_end 0 es e)) e (omega (arith, ap (place_at place v tail) q, at_same place v tail, Q.high))
      ])
      | no ne ↦ ap (λ (p : ℕ). stands h c p e) (sym (at_other place v tail (edge_end 0 es e) ne))
    ]

    push-done : (x : ℕ) → x < n → place_at place v tail x < tail + 1 → get_or degrees x 0 ≡ 0
    push-done x k l = elim (ℕ_discrete x v) [ yes q ↦ rw q none | no ne ↦ Q.done x k (still x k ne l) ]

    -- an edge into v comes from a vertex that has lost its edges
    push-before : (e : ℕ) → e < m → edge_end 1 es e ≡ v → place (edge_end 0 es e) < tail
    push-before e k q =
        stands-no h c (place (edge_end 0 es e)) e (not-entering es place h c v e q (rank-none (entering es place h c v) m e (sym (Q.count v b) ∙ none) k))
        (λ l. omega (arith, Q.high))
        (λ z l. by_order tail h (λ o. absurd (omega (arith, first (omega (arith, Q.high))))) (λ o. omega arith))

    push-order : (e : ℕ) → e < m → place_at place v tail (edge_end 1 es e) < tail + 1 → place_at place v tail (edge_end 0 es e) < place_at place v tail (edge_end 1 es e)
    push-order e k l = elim (ℕ_discrete (edge_end 1 es e) v) [
      | yes q ↦ (let o = push-before e k q in
          let f = at_other place v tail (edge_end 0 es e) (λ z. omega (arith, ap place z)) in
          omega (arith, ap (place_at place v tail) q, at_same place v tail))
      | no ne ↦ (let s = still (edge_end 1 es e) (end_below 1 E e k (omega arith)) ne l in
          let o = Q.order e k s in
          let f = at_other place v tail (edge_end 0 es e) (λ z. omega (arith, ap place z)) in
          omega (arith, at_other place v tail (edge_end 1 es e) ne))
    ]

    pub queued-push : Queued m n es degrees (set queue tail v) (place_at place v tail) h c (tail + 1)
    queued-push = record {
      high = omega (arith, Q.high);
      vertex = set_more (λ i x. x < n) queue tail v (omega (arith, fits)) Q.vertex b;
      placed = push-placed;
      found = push-found;
      out = push-out;
      count = λ x k. Q.count x k ∙ rank_same (entering es place h c x) (entering es (place_at place v tail) h c x) m (λ e j.
          entering-same es place (place_at place v tail) h c h c x e (stands-pushed e j));
      done = push-done;
      order = push-order;
    }

  -- ---- the edge d from the vertex at h goes
  module _ {d c' : ℕ} (below : edge_end 1 es d < n) (k : d < m) (at-h : place (edge_end 0 es d) ≡ h) (l : c ≤ d) (l' : d < c') (room : n ≤ length degrees)
      (same : (e : ℕ) → e < m → (e ≡ d → ⊥) → stands h c (place (edge_end 0 es e)) e ≡ stands h c' (place (edge_end 0 es e)) e) where
    one_less : rank (entering es place h c (edge_end 1 es d)) m ≡ suc (rank (entering es place h c' (edge_end 1 es d)) m)
    one_less = rank_less (entering es place h c (edge_end 1 es d)) (entering es place h c' (edge_end 1 es d)) m d k
        (entering-yes es place h c (edge_end 1 es d) d refl (stands_same h c (place (edge_end 0 es d)) d at-h l))
        (entering-no es place h c' (edge_end 1 es d) d (stands-passed h c' (place (edge_end 0 es d)) d at-h l'))
        (λ e j ne. entering-same es place place h c h c' (edge_end 1 es d) e (same e j ne))

    -- the vertex that it enters was not queued
    pub entered-some : 0 < get_or degrees (edge_end 1 es d) 0
    entered-some = omega (arith, Q.count (edge_end 1 es d) below, one_less)

    pub entered-out : tail ≤ place (edge_end 1 es d)
    entered-out = by_order tail (place (edge_end 1 es d)) (λ o. o) (λ o. absurd (omega (arith, Q.done (edge_end 1 es d) below o, entered-some)))

    take_count : (v : ℕ) → v < n → get_or (set degrees (edge_end 1 es d) (get_or degrees (edge_end 1 es d) 0 - 1)) v 0 ≡ rank (entering es place h c' v) m
    take_count v b = elim (ℕ_discrete v (edge_end 1 es d)) [
      | yes q ↦ rw q (get_or-set_same degrees (edge_end 1 es d) _ 0 (omega arith) ∙ omega (arith, Q.count (edge_end 1 es d) below, one_less))
      | no ne ↦ get_or-set_other degrees (edge_end 1 es d) v _ 0 ne ∙ Q.count v b ∙ rank_same (entering es place h c v) (entering es place h c' v) m (other v ne)
    ]
      where
        other : (v : ℕ) → (v ≡ edge_end 1 es d → ⊥) → (e : ℕ) → e < m → entering es place h c v e ≡ entering es place h c' v e
        other v ne e j = elim (ℕ_discrete e d) [
          | yes q ↦ (let o : edge_end 1 es e ≡ v → ⊥ = λ z. ne (sym z ∙ ap (edge_end 1 es) q) in entering-other es place h c v e o
              ∙ sym (entering-other es place h c' v e o))
          | no nd ↦ entering-same es place place h c h c' v e (same e j nd)
        ]

    pub queued-take : Queued m n es (set degrees (edge_end 1 es d) (get_or degrees (edge_end 1 es d) 0 - 1)) queue place h c' tail
    queued-take = record {
      high = Q.high;
      vertex = Q.vertex;
      placed = Q.placed;
      found = Q.found;
      out = Q.out;
      count = take_count;
      done = λ v b o. get_or-set_other degrees (edge_end 1 es d) v _ 0 (λ z. omega (arith, entered-out, ap place z)) ∙ Q.done v b o;
      order = Q.order;
    }
