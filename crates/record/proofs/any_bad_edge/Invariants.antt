-- What each turn of the loop keeps.
use Prim.Native.Nat.{◌-◌, ◌≤◌}
use mathlib.Core.Path.{◌≡◌, sym, ap, ◌∙◌}
use Rattle.defs.specs.Lists.{any_of, up_from}
use Rattle.defs.specs.Refusals.{bad_edge}
use Rattle.record.proofs.Fields.{edge-inside}
use Rattle.record.proofs.Tests.{any-bad-is}
use Rattle.record.proofs.TurnLaws.{any-start, any-turn, any_found, any_none}
use native.Mathlib.Omega.{arith}
use borrow.Author.Rules.{rules}
use Rattle.record.proofs.any_bad_edge.Given as goal

abbrev pub invariant-loop-i : goal.invariant-loop-i
invariant-loop-i l = (l.i ≤ l.e) × (any_of (bad_edge l.rec) (up_from l.i (l.e - l.i)) ≡ any_of (bad_edge l.rec) (up_from 0 l.e))
