-- `cleanup_seq_graph::cleanup_seq_graph` meets its contract.
use native.Mathlib.Omega.{arith}
use Rattle.cleanup_seq_graph.proofs.CleansLaws.{cleans-counted}
use borrow.Author.Rules.{rules}
use Rattle.cleanup_seq_graph.proofs.cleanup_seq_graph.Goals as goal

pub returns : goal.returns
returns c =
    cleans-counted
    (λ i. omega (arith, c.type_inv.rec i))
    c.answer-r.ensures
    c.cleanup_answer.ensures
