-- What each turn of the loop keeps.
use Prim.Native.Nat.{◌-◌}
use Rattle.memory.specs.Memory.{vertex_room}
use Rattle.splits.proofs.SplitLaws.{SplittingRound}
use Rattle.splits.proofs.split_until_complete.Given as goal

abbrev pub invariant-loop-held : goal.invariant-loop-held
invariant-loop-held l = SplittingRound l.initial.w l.initial.es l.initial.vs l.p l.initial.heads l.w l.es l.vs l.heads l.nexts l.nodes l.map l.tried

abbrev pub decreases-loop-held : goal.decreases-loop-held
decreases-loop-held l = vertex_room l.heads - l.w.held.n
