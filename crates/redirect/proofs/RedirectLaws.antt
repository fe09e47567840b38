-- Marks that say where edges stand, and the loop that redirects the edges of a vertex. Assumes nothing.
use mathlib.Core.Path.{◌≡◌, refl, sym, ap, ◌∙◌}
use mathlib.Core.Bool.{true, false}
use mathlib.Core.List.{List, [], ◌∷◌, map}
use Prim.Native.Nat.{ℕ, zero, suc, ◌+◌, ◌*◌, ◌-◌, ◌≤◌, ◌<◌}
use native.Mathlib.Omega.{arith}
use native.Mathlib.Decide.{ℕ_discrete}
use lib.ListN.{length, get_or, set, length-set}
use lib.Seq.{get_or-set_same, get_or-set_other}
use lib.Dec.{eqb}
use borrow.Author.Tests.{ne_eqb, le-leb, lt-leb}
use Rattle.defs.specs.SeqGraph.{Edge, EdgeData, edge_data, has_ends, add_or_update_edge, add_or_update_edges}
use Rattle.laws.proofs.Walks.{by_test}
use Rattle.laws.proofs.ListLaws.{by_order}
use Rattle.laws.proofs.Edges.{joins-ends}
use Rattle.tabs.proofs.Tabs.{length-tab, get_or-tab}
use Rattle.store.specs.Store.{edge, edge_in, edges_in, find_edge, carried_at, Joinable}
use Rattle.edge_data.specs.EdgeData.{carried_data}
use Rattle.edge_data.specs.declared.Carried.{Carried}
use Rattle.store.proofs.EdgeLaws.{absent_edge}
use Rattle.index.specs.Index.{edge_end, at_from, Index, pair_at, end_at}
use Rattle.index.proofs.AdjLaws.{at_head, at-step, at-end}
use Rattle.index.proofs.IndexLaws.{end_below, end_is}
use Rattle.redirect.specs.Redirect.{new_from, new_to, redirected, redirected_all, place, EdgeMarks, OneReady, OneDone, Redirectable, Redirected}
use Rattle.redirect.proofs.RaiseLaws.{first-missing, find-raised, find-added, find-other, find-missing, raise-old, raise-longer}
use Rattle.redirect.proofs.RaiseLaws.{raise_all-longer, raise_all-cons}

-- ---- ends

new-end : (off y x : ℕ) (e : Edge) → has_ends (new_from off y x) (new_to off y x) e ≡ true → end_at off e ≡ y
unfolding end_at
new-end zero y x e t = (joins-ends _ _ e t).0
new-end (suc n) y x e t = rw (ne_eqb (suc n) 0 (λ (q : suc n ≡ 0). omega arith)) at (joins-ends _ _ e t).1

ends-other : (off y x z : ℕ) → new_from off y z ≡ new_from off y x → new_to off y z ≡ new_to off y x → z ≡ x
ends-other off y x z p q = by_test (eqb off 0) (λ u. rw u at q) (λ u. rw u at p)

not_there : (off y x : ℕ) (e : Edge) → (end_at off e ≡ y → ⊥) → has_ends (new_from off y x) (new_to off y x) e ≡ false
not_there off y x e h = by_test (has_ends (new_from off y x) (new_to off y x) e) (λ t. absurd (h (new-end off y x e t))) (λ t. t)

-- ---- marks

place-low : (lo m x : ℕ) → x ≤ lo → place lo m x ≡ m
place-low lo m x h = rw (le-leb x lo h)

place-high : (lo m x : ℕ) → lo < x → place lo m x ≡ x - 1
place-high lo m x h = rw (lt-leb x lo h)

-- marks of an earlier use say nothing, where no edge has y at that end
pub marks-start : (off y n m : ℕ) (es mp : List ℕ) → off ≤ 1 → n ≤ length mp → ((x : ℕ) → x < n → get_or mp x 0 ≤ m)
    → ((j : ℕ) → j < m → edge_end off es j ≡ y → ⊥) → EdgeMarks off y n m m es mp
marks-start off y n m es mp h room most free = record {
  room = room;
  low = omega arith;
  most = most;
  is = λ x b. place-low m m (get_or mp x 0) (most x b) ∙ sym (first-missing (has_ends (new_from off y x) (new_to off y x)) absent_edge (edges_in m es)
      (λ j c. none x j (omega (arith, c, length-tab m (edge_in es)))) ∙ length-tab m (edge_in es));
}
  where
    none : (x j : ℕ) → j < m → has_ends (new_from off y x) (new_to off y x) (get_or (edges_in m es) j absent_edge) ≡ false
    none x j b = rw (get_or-tab m (edge_in es) j absent_edge b) (not_there off y x (edge_in es j) (λ q. free j b (sym (end_is es off j h) ∙ q)))

module _ {off y n lo m : ℕ} {es mp : List ℕ} (M : EdgeMarks off y n lo m es mp) (x : ℕ) {at : ℕ} (b : x < n) (q : at ≡ place lo m (get_or mp x 0)) where
  at_least : lo ≤ at
  at_least = by_order (get_or mp x 0) lo
      (λ h. omega (arith, q, place-low lo m (get_or mp x 0) h, M.low))
      (λ h. omega (arith, q, place-high lo m (get_or mp x 0) h))

  pub at_most : at ≤ m
  at_most = by_order (get_or mp x 0) lo
      (λ h. omega (arith, q, place-low lo m (get_or mp x 0) h))
      (λ h. omega (arith, q, place-high lo m (get_or mp x 0) h, M.most x b))

  pub joinable : {u v : ℕ} → u ≡ new_from off y x → v ≡ new_to off y x → 4 * m + 4 ≤ length es → Joinable m es at u v
  joinable {u} {v} hu hv r = record { room = r; is = q ∙ M.is x b ∙ (λ i. find_edge (sym hu i) (sym hv i) (edges_in m es)) }

  module _ (w : EdgeData) (k : ℕ) (es' : List ℕ) (is : edges_in k es' ≡ add_or_update_edge (new_from off y x) (new_to off y x) w (edges_in m es)) where
    abbrev added : List Edge
    added = add_or_update_edge (new_from off y x) (new_to off y x) w (edges_in m es)

    size : length added ≡ k
    size = sym (ap length is) ∙ length-tab k (edge_in es')

    size-old : length (edges_in m es) ≡ m
    size-old = length-tab m (edge_in es)

    pub longer : m ≤ k
    longer = omega (arith, size, size-old, raise-longer (new_from off y x) (new_to off y x) w (edges_in m es))

    find-new : find_edge (new_from off y x) (new_to off y x) added ≡ at
    find-new = find-raised (new_from off y x) (new_to off y x) w (edges_in m es) ∙ sym (q ∙ M.is x b)

    most-new : (z : ℕ) → z < n → get_or (set mp x (at + 1)) z 0 ≤ k
    most-new z c = elim (ℕ_discrete z x) [
      | yes e ↦ rw (e, get_or-set_same mp x (at + 1) 0 (omega (arith, M.room)))
          (omega (arith, find-new, size, find-added (new_from off y x) (new_to off y x) w (edges_in m es)))
      | no ne ↦ rw (get_or-set_other mp x z (at + 1) 0 ne) (omega (arith, M.most z c, longer))
    ]

    other-new : (z : ℕ) → z < n → (z ≡ x → ⊥) → place lo k (get_or mp z 0) ≡ find_edge (new_from off y z) (new_to off y z) added
    other-new z c ne = by_order (get_or mp z 0) lo
        (λ h. place-low lo k (get_or mp z 0) h ∙ sym (find-missing (new_from off y x) (new_to off y x) w (new_from off y z) (new_to off y z)
        (λ a d. ne (ends-other off y x z a d)) (edges_in m es) (omega (arith, size-old, M.is z c, place-low lo m (get_or mp z 0) h))
        ∙ size))
        (λ h. place-high lo k (get_or mp z 0) h ∙ sym (find-other (new_from off y x) (new_to off y x) w (new_from off y z) (new_to off y z)
        (edges_in m es) (omega (arith, size-old, M.is z c, place-high lo m (get_or mp z 0) h, M.most z c)) ∙ sym (M.is z c)
        ∙ place-high lo m (get_or mp z 0) h))

    is-new : (z : ℕ) → z < n → place lo k (get_or (set mp x (at + 1)) z 0) ≡ find_edge (new_from off y z) (new_to off y z) (edges_in k es')
    is-new z c = rw is (elim (ℕ_discrete z x) [
      | yes e ↦ rw (e, get_or-set_same mp x (at + 1) 0 (omega (arith, M.room))) (place-high lo k (at + 1) (omega (arith, at_least)) ∙ ahead ∙ sym find-new)
      | no ne ↦ rw (get_or-set_other mp x z (at + 1) 0 ne) (other-new z c ne)
    ])
      where
        ahead : at + 1 - 1 ≡ at
        ahead = omega arith

    pub marks-more : EdgeMarks off y n lo k es' (set mp x (at + 1))
    marks-more = record { room = rw (length-set mp x (at + 1)) M.room; low = omega (arith, M.low, longer); most = most-new; is = is-new }

-- ---- one edge

-- x is the end that stays
module _ {off y n lo m : ℕ} {es mp : List ℕ} {e : ℕ} (E : OneReady off y n lo m es mp e) {x : ℕ} (w : x ≡ edge_end (1 - off) es e) where
  pub other-below : x < n
  other-below = omega (arith, E.other)

  module _ {at : ℕ} (q : at ≡ place lo m (get_or mp x 0)) where
    pub edge-small : at + 1 < 4294967296
    edge-small = omega (arith, at_most E.marks x other-below q, E.small)

    pub one-done : {u v k : ℕ} {d : Carried} {es' : List ℕ} → u ≡ new_from off y x → v ≡ new_to off y x → d ≡ carried_at es e
        → edges_in k es' ≡ add_or_update_edge u v (carried_data d) (edges_in m es) → OneDone off y n lo m es e k es' (set mp x (at + 1))
    unfolding add_or_update_edges edge_data
    one-done {u} {v} {k} {d} {es'} hu hv hd is =
        let z = is ∙ (λ i. add_or_update_edge (hu i) (hv i) (carried_data (hd i)) (edges_in m es)) in
        record {
          is = z ∙ ap (λ (t : ℕ). add_or_update_edge (new_from off y t) (new_to off y t) (carried_data (carried_at es e)) (edges_in m es)) w;
          marks = marks-more E.marks x other-below q (carried_data (carried_at es e)) k es' z;
        }

-- ---- all edges of a vertex

-- edge e with y at its end `off` depends on the edge alone
abbrev pub redirect : ℕ → ℕ → Edge → Edge
redirect off y e = record { from = new_from off y (end_at (1 - off) e); to = new_to off y (end_at (1 - off) e); support = e.support; is_ref = e.is_ref; capped = e.capped }

pub redirected-is : (off y : ℕ) (es : List ℕ) (e : ℕ) → redirected off y es e ≡ redirect off y (edge_in es e)
redirected-is off y es e =
    ap (λ (x : ℕ). edge (new_from off y x) (new_to off y x) (get_or es (4 * e + 2) 0) (get_or es (4 * e + 3) 0)) (sym (end_is es (1 - off) e less))
  where
    less : 1 - off ≤ 1
    less = omega arith

redirected-same : (off y : ℕ) (es es' : List ℕ) (e : ℕ) → edge_in es' e ≡ edge_in es e → redirected off y es' e ≡ redirected off y es e
redirected-same off y es es' e q = redirected-is off y es' e ∙ ap (redirect off y) q ∙ sym (redirected-is off y es e)

pub end_same : (off : ℕ) (es es' : List ℕ) (j : ℕ) → off ≤ 1 → edge_in es' j ≡ edge_in es j → edge_end off es' j ≡ edge_end off es j
end_same off es es' j h q = sym (end_is es' off j h) ∙ ap (end_at off) q ∙ end_is es off j h

pub record Redirecting (off y n lo m₀ m : ℕ) (es₀ mp₀ : List ℕ) (v k : ℕ) (es mp : List ℕ) (e : ℕ) : Type 0 where
  pub high : e ≤ m₀
  pub hit : e < m₀ → edge_end off es₀ e ≡ v
  pub len : length es ≡ length es₀
  pub mp-len : length mp ≡ length mp₀
  pub grown : m ≤ k
  pub old : (j : ℕ) → j < m₀ → edge_in es j ≡ edge_in es₀ j
  pub marks : EdgeMarks off y n lo k es mp
  pub left : add_or_update_edges (map (redirected off y es₀) (at_from (edge_end off es₀) m₀ v e)) (edges_in k es)
      ≡ add_or_update_edges (redirected_all off y m₀ es₀ v) (edges_in m es₀)

module _ {off y n lo m₀ m : ℕ} {es₀ heads nexts mp₀ : List ℕ} {v : ℕ} (F : Redirectable off y n lo m₀ m es₀ heads nexts mp₀ v) where
  abbrev index : Index (edge_end off es₀) m₀ n (pair_at off heads) (pair_at off nexts)
  index = F.indexed.index off F.off-low

  pub redirecting-start : Redirecting off y n lo m₀ m es₀ mp₀ v m es₀ mp₀ (pair_at off heads v)
  redirecting-start = let N = index.heads v F.below in record {
    high = N.high;
    hit = N.hit;
    len = refl;
    mp-len = refl;
    grown = omega arith;
    old = λ j b. refl;
    marks = F.marks;
    left = ap (λ (l : List ℕ). add_or_update_edges (map (redirected off y es₀) l) (edges_in m es₀))
        (sym (at_head (edge_end off es₀) m₀ n (pair_at off heads) (pair_at off nexts) v index F.below));
  }

  module _ {k : ℕ} {es mp : List ℕ} {e : ℕ} (R : Redirecting off y n lo m₀ m es₀ mp₀ v k es mp e) where
    most : k ≤ length (add_or_update_edges (redirected_all off y m₀ es₀ v) (edges_in m es₀))
    most = omega (
      arith,
      length-tab k (edge_in es),
      ap length R.left,
      raise_all-longer (map (redirected off y es₀) (at_from (edge_end off es₀) m₀ v e)) (edges_in k es),
    )

    module _ (h : e < m₀) where
      pub redirecting-edge : OneReady off y n lo k es mp e
      redirecting-edge = record {
        off-low = F.off-low;
        here = omega (arith, R.len, F.indexed.room);
        other = omega (arith, end_same (1 - off) es₀ es e less (R.old e h), end_below (1 - off) F.indexed.ends e h less);
        marks = R.marks;
        room = omega (arith, most, F.room, R.len);
        small = omega (arith, most, F.small);
      }
        where
          less : 1 - off ≤ 1
          less = omega arith

      pub redirecting-on : e < pair_at off nexts e
      redirecting-on = omega (arith, (index.nexts e h).low)

      pub redirecting-more : {k' : ℕ} {es' mp' : List ℕ} → OneDone off y n lo k es e k' es' mp' → length es' ≡ length es → length mp'
          ≡ length mp → Redirecting off y n lo m₀ m es₀ mp₀ v k' es' mp' (pair_at off nexts e)
      unfolding add_or_update_edges edge_data
      redirecting-more {k'} {es'} {mp'} E a b = let N = index.nexts e h in record {
        high = N.high;
        hit = λ c. N.hit c ∙ R.hit h;
        len = a ∙ R.len;
        mp-len = b ∙ R.mp-len;
        grown = omega (arith, R.grown, size);
        old = λ j c. old-kept j c ∙ R.old j c;
        marks = E.marks;
        left = ap (add_or_update_edges (map (redirected off y es₀) (at_from (edge_end off es₀) m₀ v (pair_at off nexts e)))) (E.is
            ∙ ap (λ (x : Edge). add_or_update_edges (x ∷ []) (edges_in k es)) (redirected-same off y es₀ es e (R.old e h)))
            ∙ sym (raise_all-cons (redirected off y es₀ e) (map (redirected off y es₀) (at_from (edge_end off es₀) m₀ v (pair_at off nexts e))) (edges_in k es))
            ∙ ap (λ (l : List ℕ). add_or_update_edges (map (redirected off y es₀) l) (edges_in k es))
            (sym (at-step (edge_end off es₀) m₀ n (pair_at off heads) (pair_at off nexts) v e index h (R.hit h)))
            ∙ R.left;
      }
        where
          size : k ≤ k'
          size = omega (
            arith,
            ap length E.is,
            length-tab k' (edge_in es'),
            length-tab k (edge_in es),
            raise_all-longer (redirected off y es e ∷ []) (edges_in k es),
          )

          free : (j : ℕ) → j < m₀ → end_at off (edge_in es j) ≡ y → ⊥
          free j c q = let z = sym (end_same off es₀ es j F.off-low (R.old j c)) ∙ sym (end_is es off j F.off-low) ∙ q in
              omega (arith, z, end_below off F.indexed.ends j c F.off-low, F.new)

          old-kept : (j : ℕ) → j < m₀ → edge_in es' j ≡ edge_in es j
          old-kept j c =
              let below : j < k = omega (arith, R.grown, F.behind) in
              sym (get_or-tab k' (edge_in es') j absent_edge (omega (arith, size))) ∙ ap (λ (l : List Edge). get_or l j absent_edge) E.is
              ∙ raise-old (new_from off y (edge_end (1 - off) es e)) (new_to off y (edge_end (1 - off) es e)) (carried_data (carried_at es e))
              absent_edge (edges_in k es) j (omega (arith, length-tab k (edge_in es)))
              (rw (get_or-tab k (edge_in es) j absent_edge below) (not_there off y (edge_end (1 - off) es e) (edge_in es j) (free j c)))
              ∙ get_or-tab k (edge_in es) j absent_edge below

    pub redirecting-end : m₀ ≤ e → Redirected off y n lo m₀ m es₀ v k es mp
    unfolding add_or_update_edges
    redirecting-end h = record {
      is = ap (λ (l : List ℕ). add_or_update_edges (map (redirected off y es₀) l) (edges_in k es)) (sym (at-end (edge_end off es₀) m₀ v e h)) ∙ R.left;
      old = R.old;
      marks = R.marks;
    }
