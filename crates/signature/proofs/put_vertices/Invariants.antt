-- What each turn of the loop keeps.
use Prim.Native.Nat.{ℕ}
use Rattle.store.specs.Store.{seq_in}
use Rattle.signature.specs.Signature.{stored_vertex}
use Rattle.signature.proofs.SignLaws.{Items}
use Rattle.signature.proofs.put_vertices.Given as goal

abbrev pub invariant-loop-v : goal.invariant-loop-v
invariant-loop-v l = Items l.n (λ (u : ℕ). stored_vertex (seq_in l.vs l.p u)) l.initial.sig l.old l.initial.t l.sig l.t l.v
