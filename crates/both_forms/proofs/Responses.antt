-- Two responses by the same causes, of results that may differ in length. Assumes nothing.
use Prim.Native.Nat.{ℕ, zero, suc}
use native.Mathlib.Omega.{arith}
use mathlib.Core.Path.{◌≡◌, refl, sym, ap, ◌∙◌, subst₂}
use mathlib.Core.List.{List, [], ◌∷◌, ◌++◌}
use Rattle.defs.specs.Refusals.{Cause, refusal_of}
use Rattle.defs.specs.Calls.{Response, number_of, field_of, caller_cause, output_cause, respond_to, respond, counted_of}
use Rattle.laws.proofs.Walks.{by_test}
use Rattle.laws.proofs.Causes.{refusal-there, refusal-absent, number-responded}
use Rattle.both_forms.specs.BothForms.{OneGraph, RoomForBoth, WrittenAlike, both_refused, both_accepted}

-- a last cause that does not give its number gives none
last-absent : (cs : List Cause) (c : Cause) → (refusal_of (cs ++ (c ∷ [])) ≡ c.number → ⊥) → refusal_of (cs ++ (c ∷ [])) ≡ refusal_of cs
last-absent [] c h = by_test c.present (λ t. absurd (h (refusal-there c [] t))) (λ t. refusal-absent c [] t)
last-absent (d ∷ cs) c h = by_test d.present
    (λ t. refusal-there d (cs ++ (c ∷ [])) t ∙ sym (refusal-there d cs t))
    (λ t. refusal-absent d (cs ++ (c ∷ [])) t
    ∙ last-absent cs c (λ e. h (refusal-absent d (cs ++ (c ∷ [])) t ∙ e))
    ∙ sym (refusal-absent d cs t))

-- so a response that is not 11 is that of the other causes
with-room : (cs : List Cause) (room : ℕ) (r : List ℕ) → (number_of (respond (cs ++ (output_cause room r ∷ [])) r) ≡ 11 → ⊥)
    → respond (cs ++ (output_cause room r ∷ [])) r ≡ respond_to (refusal_of cs) r
unfolding respond output_cause
with-room cs room r h =
    ap (λ n. respond_to n r) (last-absent cs (output_cause room r) (λ e. h (number-responded (refusal_of (cs ++ (output_cause room r ∷ []))) r ∙ e)))

-- where a call accepts, none of the causes behind the caller's gives a number
called-none : (c : Cause) (cs : List Cause) → (c.number ≡ 0 → ⊥) → refusal_of (c ∷ cs) ≡ 0 → refusal_of cs ≡ 0
called-none c cs o z = by_test c.present (λ t. absurd (o (sym (refusal-there c cs t) ∙ z))) (λ t. sym (refusal-absent c cs t) ∙ z)

-- two results under one number
alike-to : (n : ℕ) (r s : List ℕ) → (n ≡ 0 → OneGraph r s) → WrittenAlike (respond_to n r) (respond_to n s)
unfolding respond_to
alike-to zero r s G = both_accepted (G refl)
alike-to (suc n) r s G = both_refused

number-alike : {x y : Response} → WrittenAlike x y → number_of x ≡ number_of y
unfolding number_of
number-alike both_refused = refl
number-alike (both_accepted G) = refl

field-to : (n : ℕ) (r s : List ℕ) (x : ℕ) → field_of (respond_to n r) x ≡ field_of (respond_to n s) x
unfolding respond_to field_of
field-to zero r s x = refl
field-to (suc n) r s x = refl

-- Two responses that are alike: what is written, every result field, and what is counted.
pub record AlikeInAll (caller : ℕ) (x y : Response) : Type 0 where
  pub written : WrittenAlike x y
  pub field : {p q : ℕ} → p ≡ q → field_of x p ≡ field_of y q
  pub counted : {p q : ℕ} → p ≡ q → counted_of caller x p ≡ counted_of caller y q

-- a call that writes: the causes cs of one record are the causes ds of the other; r and s are the results
module _ {cs ds : List Cause} (same : cs ≡ ds) (r s : List ℕ) (room room' caller : ℕ) where
  abbrev x : Response
  x = respond (caller_cause caller ∷ (cs ++ (output_cause room r ∷ []))) r

  abbrev y : Response
  y = respond (caller_cause caller ∷ (ds ++ (output_cause room' s ∷ []))) s

  module _ (roomy : RoomForBoth x y) (one : refusal_of cs ≡ 0 → OneGraph r s) where
    abbrev n : ℕ
    n = refusal_of (caller_cause caller ∷ cs)

    x-is : x ≡ respond_to n r
    x-is = with-room (caller_cause caller ∷ cs) room r roomy.first

    y-is : y ≡ respond_to n s
    y-is = with-room (caller_cause caller ∷ ds) room' s roomy.second ∙ ap (λ l. respond_to (refusal_of (caller_cause caller ∷ l)) s) (sym same)

    written-alike : WrittenAlike x y
    unfolding caller_cause
    written-alike =
        subst₂ WrittenAlike (sym x-is) (sym y-is) (alike-to n r s (λ z. one (called-none (caller_cause caller) cs (λ e. omega (arith, e)) z)))

    field_alike : {p q : ℕ} → p ≡ q → field_of x p ≡ field_of y q
    field_alike {p} e = (λ i. field_of (x-is i) p) ∙ field-to n r s p ∙ (λ i. field_of (sym y-is i) (e i))

    counted-alike : {p q : ℕ} → p ≡ q → counted_of caller x p ≡ counted_of caller y q
    unfolding counted_of
    counted-alike e = λ i. record { caller = caller; number = number-alike written-alike i; rewrites = field_alike e i }

    pub responses-alike : AlikeInAll caller x y
    responses-alike = record { written = written-alike; field = field_alike; counted = counted-alike }
