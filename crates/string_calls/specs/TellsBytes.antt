-- The promise of the string calls. Assumes nothing.
use Rattle.std.specs.Prelude.{◌≡◌, List, ℕ, ◌≤◌, length}
use Rattle.defs.specs.Forms.{form_of, limits}
use Rattle.defs.specs.Calls as D
use Rattle.calls.specs.Answers.{answer_of}
use Rattle.calls.specs.declared.Answer.{Answer}

-- For any bytes bs and any lent output: the answer and the output at exit are those of the definition's response x. As many bytes of output as a record
-- of this form may have are room enough for every string: 8,192, of SGR2 131,072.
pub record TellsBytes (bs : List ℕ) (x : D.Response) (out : List ℕ) (r : Answer) (out' : List ℕ) : Type 0 where
  pub answer : answer_of r ≡ D.answer x
  pub written : out' ≡ D.written_of x out
  pub room : (limits (form_of bs)).bytes ≤ length out → r.number ≡ 11 → ⊥
