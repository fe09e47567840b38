-- What each turn of the loop keeps.
use Prim.Native.Nat.{ℕ, ◌*◌}
use Rattle.store.specs.Store.{edge_in}
use Rattle.text.specs.Printed.{edge_line}
use Rattle.text.proofs.TextLaws.{Lines}
use Rattle.graph_text.proofs.put_edges.Given as goal

abbrev pub invariant-loop-i : goal.invariant-loop-i
invariant-loop-i l = Lines l.m (λ (k : ℕ). 38 * k) (λ (k : ℕ). edge_line (edge_in l.es k)) l.initial.text l.at l.text l.to l.i
