-- The structs that cores return, as kinds. Assumes nothing.
use Rattle.calls.specs.declared.Answer.{Answer}
use Rattle.calls.specs.declared.SimplifyAnswer.{SimplifyAnswer}
use Rattle.calls.specs.declared.CountedCleanup.{CountedCleanup}
use Rattle.calls.specs.declared.CleanupAnswer.{CleanupAnswer}
use Rattle.tallied_calls.proofs.Kind.{Kind, own-answer}

-- no rewrites are counted of an `Answer`
abbrev pub answer-kind : Kind
answer-kind = own-answer Answer (λ d. d.number) (λ d. 0)

abbrev pub simplify-answer-kind : Kind
simplify-answer-kind = own-answer SimplifyAnswer (λ d. d.number) (λ d. d.rewrites)

-- the answer is a field of what the core returns, and the rewrites stand beside it
abbrev pub counted-cleanup-kind : Kind
counted-cleanup-kind = record {
  core = CountedCleanup;
  number = λ d. d.answer.number;
  rewrites = λ d. d.rewrites;
  answer = CleanupAnswer;
  result = λ d. d.answer;
}
