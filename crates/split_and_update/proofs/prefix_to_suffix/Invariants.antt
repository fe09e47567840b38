-- What each turn of the loop keeps.
use mathlib.Core.Path.{◌≡◌}
use Prim.Native.Nat.{◌≤◌}
use Rattle.defs.specs.Rewrites.{prefix_to_suffix_from}
use Rattle.edge_data.specs.EdgeData.{carried_data}
use Rattle.split_and_update.specs.Ends.{plans_of, gone_nodes, nothing}
use Rattle.split_and_update.proofs.prefix_to_suffix.Given as goal

abbrev pub invariant-loop-i : goal.invariant-loop-i
invariant-loop-i l =
    (l.i ≤ l.c) × (carried_data l.all ≡ prefix_to_suffix_from nothing (plans_of l.m l.es l.heads (gone_nodes l.vs l.cut l.nodes l.i)))
