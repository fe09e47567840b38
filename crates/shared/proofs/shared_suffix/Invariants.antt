-- What each turn of the loops keeps.
use Prim.Native.Nat.{ℕ, ◌-◌}
use Rattle.shared.specs.Shared.{len_at, last_at}
use Rattle.shared.proofs.CommonLaws.{Agreeing, Matching}
use Rattle.shared.proofs.shared_suffix.Given as goal

abbrev pub invariant-loop-k : goal.invariant-loop-k
invariant-loop-k l = Matching (λ (j : ℕ). len_at l.vs l.nodes j - l.skip) (last_at l.vs l.p l.nodes) l.c l.i l.k

abbrev pub invariant-loop-i : goal.invariant-loop-i
invariant-loop-i l = Agreeing (λ (j : ℕ). len_at l.vs l.nodes j - l.skip) (last_at l.vs l.p l.nodes) l.c l.i
