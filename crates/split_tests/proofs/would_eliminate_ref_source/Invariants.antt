-- What each turn of the loop keeps.
use Rattle.split_tests.proofs.TestLaws.{SeekingSource}
use Rattle.split_tests.proofs.would_eliminate_ref_source.Given as goal

abbrev pub invariant-loop-i : goal.invariant-loop-i
invariant-loop-i l = SeekingSource l.n l.m l.es l.nodes l.c l.i
