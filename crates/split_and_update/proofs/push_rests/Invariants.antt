-- What each turn of the loop keeps.
use Prim.Native.Nat.{◌≤◌}
use Rattle.split_and_update.specs.Pushed.{RestsPushed}
use Rattle.split_and_update.proofs.push_rests.Given as goal

abbrev pub invariant-loop-i : goal.invariant-loop-i
invariant-loop-i l = (l.i ≤ l.c) × RestsPushed l.k l.initial.vs l.p l.nodes l.i l.x l.y l.j l.vs
