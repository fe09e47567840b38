-- What each turn of the loop keeps.
use Rattle.std.proofs.Common.{◌≡◌}
use Rattle.std.proofs.Math.Seq.{paste}
use Rattle.copies.proofs.copy.Given as goal

-- the first i places are copied
abbrev pub invariant-loop-i : goal.invariant-loop-i
invariant-loop-i g l = l.dst ≡ paste l.initial.dst 0 l.src l.i
