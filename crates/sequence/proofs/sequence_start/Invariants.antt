-- What each turn of the loop keeps.
use Prim.Native.Nat.{◌-◌}
use Rattle.record.proofs.Fields.{bytes-at-read}
use Rattle.record.proofs.Sequences.{sequence-inside, formed-headed, formed-length}
use Rattle.sequence.proofs.Starts.{AddingLengths, adding-start, adding-more, adding-fits, adding-end}
use native.Mathlib.Omega.{arith}
use borrow.Author.Rules.{rules}
use Rattle.sequence.proofs.sequence_start.Given as goal

abbrev pub invariant-loop-i : goal.invariant-loop-i
invariant-loop-i l = AddingLengths l.rec l.v l.i l.at
