-- The table of tallies: a call counts in its caller's tally and in no other, and after any row of calls a caller's tally is what its own calls
-- alone make of it. Assumes nothing.
use mathlib.Core.Path.{◌≡◌, refl, sym, ap, subst, ◌∙◌}
use mathlib.Core.Bool.{Bool, true, false, cond}
use mathlib.Core.List.{List, [], ◌∷◌}
use Prim.Native.Nat.{ℕ, ◌<◌, ◌≤◌}
use native.Mathlib.Omega.{arith}
use lib.Dec.{eqb, ltb}
use lib.ListN.{length, get_or, set, length-set}
use lib.Seq.{set_out, get_or-set_same, get_or-set_other}
use borrow.Author.Tests.{eq-eqb, ne_eqb, eqb-true, eqb-false, ltb-true, ltb-false, lt-ltb, le-ltb}
use Rattle.defs.specs.Lists.{keep_if}
use Rattle.defs.specs.SeqGraph.{saturating_add}
use Rattle.defs.specs.Tallies.{Tally, CountedCall, tallied, no_calls, caller_tally, after_call}
use Rattle.defs.specs.Sequence.{TalliedCall, counted_by, after_calls, own_calls}
use Rattle.laws.proofs.Walks.{by_test}

-- ---- one tally

module _ (c : CountedCall) (t : Tally) where
  abbrev answered : Tally
  answered = record {
    answered = saturating_add t.answered 1;
    refused = t.refused;
    rewrites = saturating_add t.rewrites c.rewrites;
  }

  abbrev refused : Tally
  refused = record { answered = t.answered; refused = saturating_add t.refused 1; rewrites = t.rewrites }

  pub tallied-answered : c.number ≡ 0 → tallied c t ≡ answered
  unfolding tallied
  tallied-answered e = ap (λ (b : Bool). cond b answered refused) (eq-eqb c.number 0 e)

  pub tallied-refused : (c.number ≡ 0 → ⊥) → tallied c t ≡ refused
  unfolding tallied
  tallied-refused o = ap (λ (b : Bool). cond b answered refused) (ne_eqb c.number 0 o)

-- ---- one call

module _ (c : CountedCall) (table : List Tally) where
  -- the table in which the caller's tally has counted the call
  abbrev own-counted : List Tally
  own-counted = set table c.caller (tallied c (caller_tally table c.caller))

  pub after-above : 15 < c.caller → after_call c table ≡ table
  unfolding after_call
  after-above l = ap (λ (b : Bool). cond b table own-counted) (lt-ltb 15 c.caller l)

  pub after-within : c.caller ≤ 15 → after_call c table ≡ own-counted
  unfolding after_call
  after-within l = ap (λ (b : Bool). cond b table own-counted) (le-ltb 15 c.caller l)

  by-caller : {A : Type 0} → (after_call c table ≡ table → A) → (after_call c table ≡ own-counted → A) → A
  by-caller f g = by_test (ltb 15 c.caller)
      (λ t. f (after-above (ltb-true 15 c.caller t)))
      (λ t. g (after-within (ltb-false 15 c.caller t)))

  pub after-length : length (after_call c table) ≡ length table
  after-length = by-caller
      (λ e. ap length e)
      (λ e. ap length e ∙ length-set table c.caller (tallied c (caller_tally table c.caller)))

  -- the caller's tally has counted the call
  pub after-own : length table ≡ 16 → c.caller ≤ 15 → caller_tally (after_call c table) c.caller ≡ tallied c (caller_tally table c.caller)
  unfolding caller_tally
  after-own s l =
      ap (λ (t : List Tally). get_or t c.caller no_calls) (after-within l)
      ∙ get_or-set_same table c.caller (tallied c (get_or table c.caller no_calls)) no_calls (omega (arith, s))

  -- every other keeps each of its fields
  pub after-other : (caller : ℕ) → (caller ≡ c.caller → ⊥) → caller_tally (after_call c table) caller ≡ caller_tally table caller
  unfolding caller_tally
  after-other caller ne = by-caller
      (λ e. ap (λ (t : List Tally). get_or t caller no_calls) e)
      (λ e. ap (λ (t : List Tally). get_or t caller no_calls) e
      ∙ get_or-set_other table c.caller caller (tallied c (get_or table c.caller no_calls)) no_calls ne)

-- ---- two tables of one size in which a caller has the same tally

pub record SameTally (caller : ℕ) (t u : List Tally) : Type 0 where
  pub size : length t ≡ length u
  pub tally : caller_tally t caller ≡ caller_tally u caller

module _ {caller : ℕ} {t u : List Tally} (S : SameTally caller t u) (c : CountedCall) where
  -- a tally put in the place of one that is the same in both, or past the end of both
  same_set : {x y : Tally} → x ≡ y → caller_tally (set t caller x) caller ≡ caller_tally (set u caller y) caller
  unfolding caller_tally
  same_set {x} {y} e = by_test (ltb caller (length t))
      (λ b. let l = ltb-true caller (length t) b in
      get_or-set_same t caller x no_calls l ∙ e ∙ sym (get_or-set_same u caller y no_calls (omega (arith, l, S.size))))
      (λ b. let l = ltb-false caller (length t) b in
      ap (λ (r : List Tally). get_or r caller no_calls) (set_out t caller x l) ∙ S.tally
      ∙ sym (ap (λ (r : List Tally). get_or r caller no_calls) (set_out u caller y (omega (arith, l, S.size)))))

  -- a call of that caller counts the same in both
  same-own : c.caller ≡ caller → caller_tally (after_call c t) caller ≡ caller_tally (after_call c u) caller
  same-own e = by_test (ltb 15 c.caller)
      (λ b. let l = ltb-true 15 c.caller b in
      ap (λ (r : List Tally). caller_tally r caller) (after-above c t l) ∙ S.tally ∙ sym (ap (λ (r : List Tally). caller_tally r caller) (after-above c u l)))
      (λ b. let l = ltb-false 15 c.caller b in
      ap (λ (r : List Tally). caller_tally r caller) (after-within c t l)
      ∙ subst (λ (i : ℕ). caller_tally (set t i (tallied c (caller_tally t i))) caller ≡ caller_tally (set u i (tallied c (caller_tally u i))) caller) (sym e)
      (same_set (ap (tallied c) S.tally))
      ∙ sym (ap (λ (r : List Tally). caller_tally r caller) (after-within c u l)))

  same-both : c.caller ≡ caller → SameTally caller (after_call c t) (after_call c u)
  same-both e = record { size = after-length c t ∙ S.size ∙ sym (after-length c u); tally = same-own e }

  same-one : (caller ≡ c.caller → ⊥) → SameTally caller (after_call c t) u
  same-one ne = record { size = after-length c t ∙ S.size; tally = after-other c t caller ne ∙ S.tally }

-- ---- rows of calls

module _ (caller : ℕ) where
  own-kept : (call : TalliedCall) (calls : List TalliedCall) → eqb (counted_by call).caller caller ≡ true
      → own_calls caller (call ∷ calls) ≡ call ∷ own_calls caller calls
  unfolding own_calls keep_if
  own-kept call calls e = rw e

  own-left-out : (call : TalliedCall) (calls : List TalliedCall) → eqb (counted_by call).caller caller ≡ false
      → own_calls caller (call ∷ calls) ≡ own_calls caller calls
  unfolding own_calls keep_if
  own-left-out call calls e = rw e

  same_after : (calls : List TalliedCall) {t u : List Tally} → SameTally caller t u
      → SameTally caller (after_calls calls t) (after_calls (own_calls caller calls) u)
  unfolding after_calls own_calls keep_if
  same_after [] S = S
  same_after (call ∷ calls) {t} {u} S = by_test (eqb (counted_by call).caller caller)
      (λ e. subst (λ (l : List TalliedCall). SameTally caller (after_calls (call ∷ calls) t) (after_calls l u)) (sym (own-kept call calls e))
      (same_after calls (same-both S (counted_by call) (eqb-true _ caller e))))
      (λ e. subst (λ (l : List TalliedCall). SameTally caller (after_calls (call ∷ calls) t) (after_calls l u)) (sym (own-left-out call calls e))
      (same_after calls (same-one S (counted_by call) (λ q. eqb-false _ caller e (sym q)))))

  -- A CALLER'S TALLY AFTER ANY CALLS IS WHAT ITS OWN CALLS ALONE MAKE OF IT
  pub calls_alone : (calls : List TalliedCall) (table : List Tally)
      → caller_tally (after_calls calls table) caller ≡ caller_tally (after_calls (own_calls caller calls) table) caller
  calls_alone calls table = (same_after calls record { size = refl; tally = refl }).tally
