-- 18 before all other causes: a caller above 15 is refused under it, and of any other the rest decides. Assumes nothing.
use mathlib.Core.Path.{◌≡◌, refl, sym, ap, ◌∙◌}
use mathlib.Core.Bool.{true, false}
use mathlib.Core.List.{List, ◌∷◌}
use Prim.Native.Nat.{ℕ, ◌≤◌, ◌<◌}
use native.Mathlib.Omega.{arith}
use borrow.Author.Tests.{lt-ltb, le-ltb}
use Rattle.defs.specs.Calls.{refused, caller_cause, respond_to, respond}
use Rattle.defs.specs.Lists.{all_of}
use Rattle.defs.specs.Refusals.{Cause, refusal_of, Takes, layout_causes, record_causes, record_refusal}
use Rattle.laws.proofs.Walks.{by_test}
use Rattle.laws.proofs.Causes.{refusal-there, refusal-absent, numbers-other}
use Rattle.calls.specs.Sending.{Responds}
use Rattle.calls.specs.declared.Answer.{Answer}
use Rattle.calls.proofs.SendLaws.{responds-refused, responds-as}

module _ (caller : ℕ) where
  caller-number : (caller_cause caller).number ≡ 18
  unfolding caller_cause
  caller-number = refl

  caller-above : 15 < caller → (caller_cause caller).present ≡ true
  unfolding caller_cause
  caller-above l = lt-ltb 15 caller l

  caller-within : caller ≤ 15 → (caller_cause caller).present ≡ false
  unfolding caller_cause
  caller-within l = le-ltb 15 caller l

  module _ (causes : List Cause) where
    -- another number than 18 is given by the causes behind
    pub caller-other : {n : ℕ} → (18 ≡ n → ⊥) → refusal_of (caller_cause caller ∷ causes) ≡ n → refusal_of causes ≡ n
    caller-other o e = by_test (caller_cause caller).present
        (λ t. absurd (o (sym (refusal-there (caller_cause caller) causes t ∙ caller-number) ∙ e)))
        (λ t. sym (refusal-absent (caller_cause caller) causes t) ∙ e)

    pub caller-none : refusal_of (caller_cause caller ∷ causes) ≡ 0 → refusal_of causes ≡ 0
    caller-none e = caller-other (λ z. omega (arith, z)) e

    module _ (result : List ℕ) where
      pub respond-above : 15 < caller → respond (caller_cause caller ∷ causes) result ≡ refused 18
      unfolding respond respond_to
      respond-above l = ap (λ (n : ℕ). respond_to n result) (refusal-there (caller_cause caller) causes (caller-above l) ∙ caller-number)

      pub respond-within : caller ≤ 15 → respond (caller_cause caller ∷ causes) result ≡ respond causes result
      unfolding respond
      respond-within l = ap (λ (n : ℕ). respond_to n result) (refusal-absent (caller_cause caller) causes (caller-within l))

-- 18 and the causes that lie in the record
module _ (caller : ℕ) (t : Takes) (bs : List ℕ) where
  pub caller-record-none : refusal_of (caller_cause caller ∷ record_causes t bs) ≡ 0 → record_refusal t bs ≡ 0
  unfolding record_refusal
  caller-record-none = caller-none caller (record_causes t bs)

  pub caller-record-never-11 : refusal_of (caller_cause caller ∷ record_causes t bs) ≡ 11 → ⊥
  unfolding caller_cause record_causes layout_causes all_of
  caller-record-never-11 = numbers-other 11 (caller_cause caller ∷ record_causes t bs) (omega arith) refl

-- what is sent to a caller
module _ {caller : ℕ} (causes : List Cause) (result : List ℕ) {out : List ℕ} where
  pub sends-above : 15 < caller → Responds (respond (caller_cause caller ∷ causes) result) out record { number = 18; length = 0 } out
  sends-above l = responds-refused (respond-above caller causes result l) refl refl

  pub sends-within : {s : Answer} {out' : List ℕ} → caller ≤ 15 → Responds (respond causes result) out s out'
      → Responds (respond (caller_cause caller ∷ causes) result) out s out'
  sends-within l R = responds-as (respond-within caller causes result l) R
