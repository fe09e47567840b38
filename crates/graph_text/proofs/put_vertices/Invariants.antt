-- What each turn of the loop keeps.
use Prim.Native.Nat.{ℕ}
use Rattle.store.specs.Store.{seq_in}
use Rattle.text.specs.Printed.{vertex_line}
use Rattle.text.proofs.TextLaws.{Lines}
use Rattle.graph_text.specs.GraphText.{vertices_most}
use Rattle.graph_text.proofs.put_vertices.Given as goal

abbrev pub invariant-loop-v : goal.invariant-loop-v
invariant-loop-v l = Lines l.n (λ (k : ℕ). vertices_most k l.vs) (λ (k : ℕ). vertex_line k (seq_in l.vs l.p k)) l.initial.text l.at l.text l.to l.v
