-- What each turn of the loops keeps.
use Rattle.shared.specs.Shared.{len_at, byte_at}
use Rattle.shared.proofs.CommonLaws.{Agreeing, Matching}
use Rattle.shared.proofs.shared_prefix.Given as goal

abbrev pub invariant-loop-k : goal.invariant-loop-k
invariant-loop-k l = Matching (len_at l.vs l.nodes) (byte_at l.vs l.p l.nodes) l.c l.i l.k

abbrev pub invariant-loop-i : goal.invariant-loop-i
invariant-loop-i l = Agreeing (len_at l.vs l.nodes) (byte_at l.vs l.p l.nodes) l.c l.i
