-- `split_tests::would_eliminate_ref_source` meets its contract.
use native.Mathlib.Omega.{arith}
use Rattle.split_tests.proofs.TestLaws.{seeking-found, seeking-end}
use Rattle.split_tests.proofs.would_eliminate_ref_source.Goals as goal

pub returns-then-is_ref_source : goal.returns-then-is_ref_source
returns-then-is_ref_source c =
    seeking-found
    c.loop-i.invariant
    c.requires.1.0
    (omega arith)
    c.is_ref_source.ensures
    c.if-is_ref_source.true
    c.vertex_len.ensures

pub returns : goal.returns
returns c = seeking-end c.loop-i.invariant (omega arith)
