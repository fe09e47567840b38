-- What each turn of the loop keeps.
use Prim.Native.Nat.{ℕ}
use Rattle.store.specs.Store.{edge_in}
use Rattle.signature.specs.Signature.{stored_edge}
use Rattle.signature.proofs.SignLaws.{Items}
use Rattle.signature.proofs.put_edges.Given as goal

abbrev pub invariant-loop-i : goal.invariant-loop-i
invariant-loop-i l = Items l.m (λ (j : ℕ). stored_edge (edge_in l.es j)) l.initial.sig l.old l.initial.t l.sig l.t l.i
