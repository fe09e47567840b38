-- What each turn of the loop keeps.
use Rattle.chain.proofs.ChainLaws.{Tracing}
use Rattle.chain.proofs.trace_linear_chain.Given as goal

abbrev pub invariant-loop-c : goal.invariant-loop-c
invariant-loop-c l = Tracing l.m l.n l.es l.start l.initial.out l.out l.last l.c
