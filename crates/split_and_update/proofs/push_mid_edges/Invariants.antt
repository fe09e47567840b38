-- What each turn of the loop keeps.
use Prim.Native.Nat.{◌≤◌}
use Rattle.split_and_update.proofs.LoopLaws.{PushingMiddles}
use Rattle.split_and_update.proofs.push_mid_edges.Given as goal

abbrev pub invariant-loop-i : goal.invariant-loop-i
invariant-loop-i l = (l.i ≤ l.c) × PushingMiddles l.m l.k l.initial.es l.vs l.heads l.nodes l.cut l.off l.u l.first l.i l.es l.at l.j
