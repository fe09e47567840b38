-- What each turn of the loop keeps.
use mathlib.Core.Path.{◌≡◌}
use Prim.Native.Nat.{◌≤◌}
use Rattle.split_and_update.specs.Pushed.{left_nodes}
use Rattle.split_and_update.specs.Ends.{plans_of, any_ref}
use Rattle.split_and_update.proofs.mids_ref.Given as goal

abbrev pub invariant-loop-i : goal.invariant-loop-i
invariant-loop-i l = (l.i ≤ l.c) × (l.any ≡ any_ref l.off (plans_of l.m l.es l.heads (left_nodes l.vs l.cut l.nodes l.i)))
