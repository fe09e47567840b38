-- What each turn of the loop keeps.
use Prim.Native.Nat.{ℕ, ◌*◌}
use lib.ListN.{length, get_or}
use Rattle.text.specs.Printed.{printed_byte}
use Rattle.text.proofs.TextLaws.{Lines}
use Rattle.text.proofs.put_each.Given as goal

abbrev pub invariant-loop-b : goal.invariant-loop-b
invariant-loop-b l = Lines (length l.s) (λ (k : ℕ). 4 * k) (λ (k : ℕ). printed_byte (get_or l.s k 0)) l.initial.text l.at l.text l.to l.b-index
