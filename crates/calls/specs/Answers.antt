-- The result structs as the definitions' answers. Assumes nothing.
use Rattle.std.specs.Prelude.{◌≡◌, List, ℕ}
use Rattle.defs.specs.Calls as D
use Rattle.defs.specs.Calls.{number_of, length_of, field_of, respond}
use Rattle.defs.specs.Refusals.{Cause}
use Rattle.defs.specs.Simplify.{Simplified, end_number}
use Rattle.defs.specs.Cleanup.{Cleaned, status_number}
use Rattle.calls.specs.declared.Answer.{Answer}
use Rattle.calls.specs.declared.SimplifyAnswer.{SimplifyAnswer}
use Rattle.calls.specs.declared.CleanupAnswer.{CleanupAnswer}
use Rattle.calls.specs.declared.CountedCleanup.{CountedCleanup}

-- a struct's fields, as the definition has them
abbrev pub answer_of : Answer → D.Answer
answer_of r = record { number = r.number; length = r.length }

abbrev pub simplify_answer_of : SimplifyAnswer → D.SimplifyAnswer
simplify_answer_of r = record { number = r.number; length = r.length; rewrites = r.rewrites; rounds = r.rounds; end = r.end }

abbrev pub cleanup_answer_of : CleanupAnswer → D.CleanupAnswer
cleanup_answer_of r = record { number = r.number; length = r.length; status = r.status }

-- The whole answer is the definition's if number and length are those of the call's response and, in an answered call, the other numbers are
-- the definition's.
pub record AnswersSimplify (s : Answer) (rewrites rounds end : ℕ) (r : SimplifyAnswer) : Type 0 where
  pub is : (causes : List Cause) (result : List ℕ) (z : Simplified) → s.number ≡ number_of (respond causes result)
      → s.length ≡ length_of (respond causes result)
      → (s.number ≡ 0 → (rewrites ≡ z.rewrites) × ((rounds ≡ z.rounds) × (end ≡ end_number z.end)))
      → simplify_answer_of r ≡ D.simplify_answer (respond causes result) z

pub record AnswersCleanup (s : Answer) (status rewrites : ℕ) (r : CountedCleanup) : Type 0 where
  pub is : (causes : List Cause) (result : List ℕ) (z : Cleaned) → s.number ≡ number_of (respond causes result)
      → s.length ≡ length_of (respond causes result)
      → (s.number ≡ 0 → (status ≡ status_number z.status) × (rewrites ≡ z.rewrites))
      → (cleanup_answer_of r.answer ≡ D.cleanup_answer (respond causes result) z) × (r.rewrites ≡ field_of (respond causes result) z.rewrites)
