-- What each turn of the loop keeps.
use Prim.Native.Nat.{◌-◌, ◌≤◌}
use mathlib.Core.Path.{◌≡◌, sym, ◌∙◌}
use Rattle.defs.specs.Lists.{any_of, up_from}
use Rattle.record.specs.Layout.{other_kmer_length}
use Rattle.record.proofs.Fields.{length-inside}
use Rattle.record.proofs.TurnLaws.{any-start, any-turn, any_found, any_none}
use Rattle.record.proofs.Tests.{length-other, length-k}
use native.Mathlib.Omega.{arith}
use borrow.Author.Rules.{rules}
use Rattle.record.proofs.other_kmer_length.Given as goal

abbrev pub invariant-loop-i : goal.invariant-loop-i
invariant-loop-i l = (l.i ≤ l.v) × (any_of (other_kmer_length l.rec) (up_from l.i (l.v - l.i)) ≡ any_of (other_kmer_length l.rec) (up_from 0 l.v))
