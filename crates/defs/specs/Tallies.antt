-- Tallies: one for each of sixteen callers, in a table, and what a call makes of the table. The callers are 0 to 15.
-- Assumes nothing.
use Rattle.std.specs.Prelude.{ℕ, cond, List, eqb, ltb, get_or, set}
use Rattle.defs.specs.SeqGraph.{saturating_add}

-- calls answered, calls refused, and the rewrites made in the answered ones
pub record Tally : Type 0 where
  pub answered : ℕ
  pub refused : ℕ
  pub rewrites : ℕ

-- what is counted of a call: who called, its number, and its rewrites
pub record CountedCall : Type 0 where
  pub caller : ℕ
  pub number : ℕ
  pub rewrites : ℕ

-- a tally behind one call more, which is answered with number 0 and refused with any other; each figure stops at 2^32 − 1
unfoldable pub tallied : CountedCall → Tally → Tally
tallied c t =
    cond (eqb c.number 0)
    (record { answered = saturating_add t.answered 1; refused = t.refused; rewrites = saturating_add t.rewrites c.rewrites })
    (record { answered = t.answered; refused = saturating_add t.refused 1; rewrites = t.rewrites })

-- a new tally
unfoldable pub no_calls : Tally
no_calls = record { answered = 0; refused = 0; rewrites = 0 }

unfoldable pub caller_tally : List Tally → ℕ → Tally
caller_tally table caller = get_or table caller no_calls

-- the table behind a call: its caller's tally has counted it, the others are as they were; a caller above 15 has no tally
unfoldable pub after_call : CountedCall → List Tally → List Tally
after_call c table = cond (ltb 15 c.caller) table (set table c.caller (tallied c (caller_tally table c.caller)))
