-- What each turn of the loop keeps.
use Prim.Native.Nat.{◌+◌, ◌-◌, ◌*◌, ◌≤◌}
use mathlib.Core.Path.{◌≡◌}
use Rattle.defs.specs.Lists.{tab, tab_from, sum}
use Rattle.defs.specs.Record.{length_at}
use Rattle.record.proofs.Fields.{length-inside}
use Rattle.record.proofs.TurnLaws.{sum-start, sum-turn, sum-spent}
use native.Mathlib.Omega.{arith}
use Rattle.record.proofs.total_length.Given as goal

abbrev pub invariant-loop-i : goal.invariant-loop-i
invariant-loop-i l =
    (l.i ≤ l.v) × (l.total + sum (tab_from l.i (l.v - l.i) (length_at l.rec)) ≡ sum (tab l.v (length_at l.rec))) × (l.total ≤ 4294967295 * l.i)
