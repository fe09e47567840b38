-- The structs as the definitions' tallies, and the promise of what a call makes of the table. Assumes nothing.
use Rattle.std.specs.Prelude.{◌≡◌, List, [], ◌∷◌, map, ℕ}
use Rattle.defs.specs.Tallies as D
use Rattle.defs.specs.Tallies.{CountedCall, tallied, after_call}
use Rattle.defs.specs.Sequence.{TalliedCall, counted_by}
use Rattle.tallies.specs.declared.Tally.{Tally}
use Rattle.tallies.specs.declared.Tallies.{Tallies}

-- a struct's fields, as the definition has them
abbrev pub tally_of : Tally → D.Tally
tally_of t = record { answered = t.answered; refused = t.refused; rewrites = t.rewrites }

abbrev pub tallies_of : Tallies → List D.Tally
tallies_of table = map tally_of table.callers

abbrev pub counted : ℕ → ℕ → ℕ → CountedCall
counted caller number rewrites = record { caller = caller; number = number; rewrites = rewrites }

-- a tally behind a call, whoever called
pub record TalliesCall (number rewrites : ℕ) (t t' : Tally) : Type 0 where
  pub is : (caller : ℕ) → tally_of t' ≡ tallied (counted caller number rewrites) (tally_of t)

-- The table at exit is the definition's, all sixteen entries.
pub record Raises (c : CountedCall) (table table' : Tallies) : Type 0 where
  pub is : tallies_of table' ≡ after_call c (tallies_of table)

-- Calls one after another on one table: each leaves it as the promise of its call says.
unfoldable pub Leaves : List TalliedCall → Tallies → Tallies → Type 0
Leaves [] table table' = table' ≡ table
Leaves (call ∷ calls) table table' = (between : Tallies) × (Raises (counted_by call) table between × Leaves calls between table')
