-- The result structs, field by field. Assumes nothing.
use mathlib.Core.Path.{◌≡◌, sym, ap, ◌∙◌}
use mathlib.Core.List.{List}
use Prim.Native.Nat.{ℕ}
use Rattle.defs.specs.Calls.{Response, refused, accepted, number_of, length_of, field_of}
use Rattle.defs.specs.Simplify.{end_number}
use Rattle.defs.specs.Cleanup.{status_number}
use Rattle.calls.specs.Answers.{AnswersSimplify, AnswersCleanup}
use Rattle.calls.specs.declared.Answer.{Answer}
use Rattle.calls.proofs.ResponseLaws.{by-response}

-- a field that is 0 when refused
module _ {x : Response} where
  field-refused : {n : ℕ} (v : ℕ) → x ≡ refused n → 0 ≡ field_of x v
  unfolding field_of
  field-refused v e = sym (ap (λ (y : Response). field_of y v) e)

  field-accepted : {bytes : List ℕ} {w : ℕ} (v : ℕ) → x ≡ accepted bytes → w ≡ v → w ≡ field_of x v
  unfolding field_of
  field-accepted v e q = q ∙ sym (ap (λ (y : Response). field_of y v) e)

-- only a refusal has another number than 0, and every refusal has one
module _ {number : ℕ} {x : Response} (q : number ≡ number_of x) where
  not-accepted : {A : Type 0} {bytes : List ℕ} → (number ≡ 0 → ⊥) → x ≡ accepted bytes → A
  unfolding number_of
  not-accepted o e = absurd (o (q ∙ ap number_of e))

  not-refused : {A : Type 0} {n : ℕ} → number ≡ 0 → x ≡ refused n → (n ≡ 0 → ⊥) → A
  unfolding number_of
  not-refused z e o = absurd (o (sym (q ∙ ap number_of e) ∙ z))

length-refused : {x : Response} {n : ℕ} → x ≡ refused n → 0 ≡ length_of x
unfolding length_of
length-refused e = sym (ap length_of e)

module _ (s : Answer) (rewrites : ℕ) where
  module _ (o : s.number ≡ 0 → ⊥) where
    pub simplify-refused-is : (rounds end : ℕ)
        → AnswersSimplify s rewrites rounds end record { number = s.number; length = 0; rewrites = 0; rounds = 0; end = 0 }
    simplify-refused-is rounds end = record {
      is = λ causes result z q l f. by-response causes result
          (λ n e p. λ i. record {
            number = q i;
            length = length-refused e i;
            rewrites = field-refused z.rewrites e i;
            rounds = field-refused z.rounds e i;
            end = field-refused (end_number z.end) e i;
          })
          (λ _ e. not-accepted q o e);
    }

    pub cleanup-refused-is : (status : ℕ)
        → AnswersCleanup s status rewrites record { answer = record { number = s.number; length = 0; status = 0 }; rewrites = 0 }
    cleanup-refused-is status = record {
      is = λ causes result z q l f. by-response causes result
          (λ n e p. (
            (λ i. record { number = q i; length = length-refused e i; status = field-refused (status_number z.status) e i }),
            field-refused z.rewrites e,
          ))
          (λ _ e. not-accepted q o e);
    }

  module _ (zero_is : s.number ≡ 0) where
    pub simplify-answered-is : (rounds end : ℕ)
        → AnswersSimplify s rewrites rounds end record { number = 0; length = s.length; rewrites = rewrites; rounds = rounds; end = end }
    simplify-answered-is rounds end = record {
      is = λ causes result z q l f. by-response causes result
          (λ n e o. not-refused q zero_is e o)
          (λ _ e. λ i. record {
            number = (sym zero_is ∙ q) i;
            length = l i;
            rewrites = field-accepted z.rewrites e (f zero_is).0 i;
            rounds = field-accepted z.rounds e (f zero_is).1.0 i;
            end = field-accepted (end_number z.end) e (f zero_is).1.1 i;
          });
    }

    pub cleanup-answered-is : (status : ℕ)
        → AnswersCleanup s status rewrites record { answer = record { number = 0; length = s.length; status = status }; rewrites = rewrites }
    cleanup-answered-is status = record {
      is = λ causes result z q l f. by-response causes result
          (λ n e o. not-refused q zero_is e o)
          (λ _ e. (
            (λ i. record {
              number = (sym zero_is ∙ q) i;
              length = l i;
              status = field-accepted (status_number z.status) e (f zero_is).0 i;
            }),
            field-accepted z.rewrites e (f zero_is).1,
          ));
    }
