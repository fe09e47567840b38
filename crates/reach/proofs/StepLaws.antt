-- The steps of a walk over the edges in slices. Assumes nothing.
use mathlib.Core.Path.{◌≡◌, refl, sym, ap, ◌∙◌}
use mathlib.Core.Logic.{⊎_elim}
use mathlib.Core.Bool.{Bool, true, false, not}
use mathlib.Core.List.{List}
use Prim.Native.Nat.{ℕ, zero, suc, ◌-◌, ◌≤◌, ◌<◌}
use native.Mathlib.Omega.{arith}
use lib.Dec.{eqb}
use borrow.Author.Tests.{eqb-true, eq-eqb}
use Rattle.defs.specs.SeqGraph.{Edge}
use Rattle.defs.specs.Cleanup.{forward, backward, either}
use Rattle.laws.proofs.ListLaws.{and_split, and-true, or_cases, or_left, or_right}
use Rattle.laws.proofs.Reach.{Hop}
use Rattle.tabs.proofs.ListTabs.{mem-tab, of-mem-tab}
use Rattle.store.specs.Store.{edge_in}
use Rattle.index.specs.Index.{edge_end, end_at}
use Rattle.index.proofs.IndexLaws.{end_is}
use Rattle.refs.specs.Refs.{ref_at}
use Rattle.reach.specs.Reach.{step_of, walk_step, takes_end, passable, bare}

-- a step by its parts: the end at which it takes the edge
pub record StepOver (kind : ℕ) (x : Edge) (u w : ℕ) : Type 0 where
  pub off : ℕ
  pub is-end : off ≤ 1
  pub takes : takes_end kind off ≡ true
  pub here : end_at off x ≡ u
  pub there : end_at (1 - off) x ≡ w

along : (x : Edge) (u w : ℕ) → x.from ≡ u → x.to ≡ w → forward x u w ≡ true
unfolding forward
along x u w p q = and-true _ _ (eq-eqb _ _ p) (eq-eqb _ _ q)

against : (x : Edge) (u w : ℕ) → x.to ≡ u → x.from ≡ w → backward x u w ≡ true
unfolding backward
against x u w p q = and-true _ _ (eq-eqb _ _ p) (eq-eqb _ _ q)

pub step-yes : (kind off : ℕ) (x : Edge) (u w : ℕ) → off ≤ 1 → takes_end kind off ≡ true → end_at off x ≡ u → end_at (1 - off) x ≡ w → step_of kind x u w ≡ true
unfolding step_of takes_end end_at either
step-yes zero zero x u w l t p q = along x u w p q
step-yes zero (suc n) x u w l t p q = absurd (omega (arith, eqb-true (suc n) 0 t))
step-yes (suc zero) zero x u w l t p q = absurd (omega (arith, eqb-true 0 1 t))
step-yes (suc zero) (suc zero) x u w l t p q = against x u w p q
step-yes (suc zero) (suc (suc n)) x u w l t p q = absurd (omega arith)
step-yes (suc (suc kind)) zero x u w l t p q = or_left _ _ (along x u w p q)
step-yes (suc (suc kind)) (suc zero) x u w l t p q = or_right (forward x u w) _ (against x u w p q)
step-yes (suc (suc kind)) (suc (suc n)) x u w l t p q = absurd (omega arith)

of-along : (kind : ℕ) (x : Edge) (u w : ℕ) → takes_end kind 0 ≡ true → forward x u w ≡ true → StepOver kind x u w
unfolding forward end_at
of-along kind x u w t e = let h = and_split (eqb x.from u) (eqb x.to w) e in
    record { off = 0; is-end = omega arith; takes = t; here = eqb-true _ _ h.0; there = eqb-true _ _ h.1 }

of-against : (kind : ℕ) (x : Edge) (u w : ℕ) → takes_end kind 1 ≡ true → backward x u w ≡ true → StepOver kind x u w
unfolding backward end_at
of-against kind x u w t e = let h = and_split (eqb x.to u) (eqb x.from w) e in
    record { off = 1; is-end = omega arith; takes = t; here = eqb-true _ _ h.0; there = eqb-true _ _ h.1 }

pub of-step : (kind : ℕ) (x : Edge) (u w : ℕ) → step_of kind x u w ≡ true → StepOver kind x u w
unfolding step_of either takes_end
of-step zero x u w e = of-along zero x u w refl e
of-step (suc zero) x u w e = of-against (suc zero) x u w refl e
of-step (suc (suc n)) x u w e = ⊎_elim (of-along (suc (suc n)) x u w refl) (of-against (suc (suc n)) x u w refl) (or_cases (forward x u w) (backward x u w) e)

-- in slices
walk-yes : (plain : Bool) (kind : ℕ) (es : List ℕ) (e u w : ℕ) → passable plain es e ≡ true → step_of kind (edge_in es e) u w ≡ true
    → walk_step plain kind (edge_in es e) u w ≡ true
unfolding walk_step passable
walk-yes true kind es e u w p t = and-true _ _ p t
walk-yes false kind es e u w p t = t

of-walk : (plain : Bool) (kind : ℕ) (es : List ℕ) (e u w : ℕ) → walk_step plain kind (edge_in es e) u w ≡ true → (passable plain es e ≡ true)
    × (step_of kind (edge_in es e) u w ≡ true)
unfolding walk_step passable
of-walk true kind es e u w t = and_split _ _ t
of-walk false kind es e u w t = (refl, t)

-- a hop by its parts
pub record Step (plain : Bool) (kind m : ℕ) (es : List ℕ) (u w : ℕ) : Type 0 where
  pub edge : ℕ
  pub below : edge < m
  pub passes : passable plain es edge ≡ true
  pub off : ℕ
  pub is-end : off ≤ 1
  pub takes : takes_end kind off ≡ true
  pub here : edge_end off es edge ≡ u
  pub there : edge_end (1 - off) es edge ≡ w

pub step-hop : {plain : Bool} {kind m : ℕ} {es : List ℕ} {u w : ℕ} → Step plain kind m es u w → Hop (walk_step plain kind) (bare m es) u w
step-hop {plain} {kind} {m} {es} {u} {w} S = (
  edge_in es S.edge,
  mem-tab m (edge_in es) S.edge S.below,
  walk-yes plain kind es S.edge u w S.passes (step-yes kind S.off (edge_in es S.edge) u w S.is-end S.takes
      (end_is es S.off S.edge S.is-end ∙ S.here) (end_is es (1 - S.off) S.edge (omega arith) ∙ S.there)),
)

hop-at : (plain : Bool) (kind m : ℕ) (es : List ℕ) (u w e : ℕ) → e < m → walk_step plain kind (edge_in es e) u w ≡ true → Step plain kind m es u w
hop-at plain kind m es u w e b t =
    let h = of-walk plain kind es e u w t in
    let o = of-step kind (edge_in es e) u w h.1 in
    record {
      edge = e;
      below = b;
      passes = h.0;
      off = o.off;
      is-end = o.is-end;
      takes = o.takes;
      here = sym (end_is es o.off e o.is-end) ∙ o.here;
      there = sym (end_is es (1 - o.off) e (omega arith)) ∙ o.there;
    }

pub hop-step : {plain : Bool} {kind m : ℕ} {es : List ℕ} {u w : ℕ} → Hop (walk_step plain kind) (bare m es) u w → Step plain kind m es u w
hop-step {plain} {kind} {m} {es} {u} {w} (x, i, t) = let j = of-mem-tab m (edge_in es) i in hop-at plain
    kind m es u w j.0 j.1 (ap (λ (y : Edge). walk_step plain kind y u w) (sym j.2) ∙ t)

-- ---- the test, as it is made

pub pass-plain : (plain : Bool) (es : List ℕ) (e : ℕ) {x : Bool} → plain ≡ true → x ≡ ref_at es e → not x ≡ passable plain es e
unfolding passable
pass-plain plain es e p q = rw (p, passable) (ap not q)

pub pass-any : (plain : Bool) (es : List ℕ) (e : ℕ) → plain ≡ false → not plain ≡ passable plain es e
unfolding passable
pass-any plain es e p = rw (p, passable)
