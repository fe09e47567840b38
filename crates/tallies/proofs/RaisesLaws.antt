-- What the code makes of a tally and of the table is the definition's; and of tables that calls leave, each caller's tally is what its own calls
-- alone leave. Assumes nothing.
use mathlib.Core.Path.{◌≡◌, refl, sym, ap, ◌∙◌}
use mathlib.Core.List.{List, [], ◌∷◌, map}
use Prim.Native.Nat.{ℕ, zero, suc, ◌<◌, ◌≤◌}
use native.Mathlib.Omega.{arith}
use lib.ListN.{get_or, set, get_or-map}
use Rattle.defs.specs.SeqGraph.{saturating_add}
use Rattle.defs.specs.Tallies as D
use Rattle.defs.specs.Tallies.{CountedCall, tallied, no_calls, caller_tally}
use Rattle.defs.specs.Sequence.{TalliedCall, after_calls, own_calls}
use Rattle.laws.proofs.Tallies.{tallied-answered, tallied-refused, after-above, after-within, after-other, calls_alone}
use Rattle.tallies.specs.Raises.{tally_of, tallies_of, counted, TalliesCall, Raises, Leaves}
use Rattle.tallies.specs.declared.Tally.{Tally}
use Rattle.tallies.specs.declared.Tallies.{Tallies}

-- ---- a tally

module _ {t r : Tally} {number rewrites : ℕ} where
  pub tallies-refused : (number ≡ 0 → ⊥) → r.answered ≡ t.answered → r.refused ≡ saturating_add t.refused 1 → r.rewrites ≡ t.rewrites
      → TalliesCall number rewrites t r
  tallies-refused o a b c = record {
    is = λ caller. (λ i. record { answered = a i; refused = b i; rewrites = c i })
        ∙ sym (tallied-refused (counted caller number rewrites) (tally_of t) o);
  }

  pub tallies-answered : number ≡ 0 → r.answered ≡ saturating_add t.answered 1 → r.refused ≡ t.refused
      → r.rewrites ≡ saturating_add t.rewrites rewrites → TalliesCall number rewrites t r
  tallies-answered z a b c = record {
    is = λ caller. (λ i. record { answered = a i; refused = b i; rewrites = c i })
        ∙ sym (tallied-answered (counted caller number rewrites) (tally_of t) z);
  }

-- ---- the table

map-set : {A B : Type 0} (f : A → B) (l : List A) (i : ℕ) (v : A) → map f (set l i v) ≡ set (map f l) i (f v)
map-set f [] i v = refl
map-set f (x ∷ xs) zero v = refl
map-set {B = B} f (x ∷ xs) (suc i) v = ap (λ (t : List B). f x ∷ t) (map-set f xs i v)

module _ (table : Tallies) (caller number rewrites : ℕ) where
  abbrev this : CountedCall
  this = counted caller number rewrites

  pub raises-none : 15 < caller → Raises this table table
  raises-none l = record { is = sym (after-above this (tallies_of table) (omega (arith, l))) }

  abbrev empty : Tally
  empty = record { answered = 0; refused = 0; rewrites = 0 }

  tally-at : caller_tally (tallies_of table) caller ≡ tally_of (get_or table.callers caller empty)
  unfolding caller_tally no_calls
  tally-at = get_or-map tally_of table.callers caller empty

  pub raises-one : {new : Tally} → caller ≤ 15 → TalliesCall number rewrites (get_or table.callers caller empty) new
      → Raises this table record { callers = set table.callers caller new }
  raises-one {new} l T = record {
    is = map-set tally_of table.callers caller new
        ∙ ap (set (tallies_of table) caller) (T.is caller ∙ ap (tallied this) (sym tally-at))
        ∙ sym (after-within this (tallies_of table) (omega (arith, l)));
  }

-- ---- rows of calls

leaves_after : (calls : List TalliedCall) (table table' : Tallies) → Leaves calls table table' → tallies_of table' ≡ after_calls calls (tallies_of table)
unfolding Leaves after_calls
leaves_after [] table table' e = ap tallies_of e
leaves_after (call ∷ calls) table table' (between, l) = leaves_after calls between table' l.1 ∙ ap (after_calls calls) l.0.is

-- WHAT CALLS LEAVE OF A CALLER'S TALLY IS WHAT ITS OWN CALLS ALONE LEAVE OF IT
pub leaves-alone : (caller : ℕ) (calls : List TalliedCall) (table table' alone : Tallies) → Leaves calls table table'
    → Leaves (own_calls caller calls) table alone → caller_tally (tallies_of table') caller ≡ caller_tally (tallies_of alone) caller
leaves-alone caller calls table table' alone l o =
    ap (λ (t : List D.Tally). caller_tally t caller) (leaves_after calls table table' l)
    ∙ calls_alone caller calls (tallies_of table)
    ∙ sym (ap (λ (t : List D.Tally). caller_tally t caller) (leaves_after (own_calls caller calls) table alone o))

-- a call keeps each field of every tally but its caller's
pub raises-other : {c : CountedCall} {table table' : Tallies} → Raises c table table' → (caller : ℕ) → (caller ≡ c.caller → ⊥)
    → caller_tally (tallies_of table') caller ≡ caller_tally (tallies_of table) caller
raises-other {c} {table} R caller ne = ap (λ (t : List D.Tally). caller_tally t caller) R.is ∙ after-other c (tallies_of table) caller ne

-- and with a caller above 15 the whole table
pub raises-above : {c : CountedCall} {table table' : Tallies} → Raises c table table' → 15 < c.caller → tallies_of table' ≡ tallies_of table
raises-above {c} {table} R l = R.is ∙ after-above c (tallies_of table) l
