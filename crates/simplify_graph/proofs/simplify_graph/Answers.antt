-- `simplify_graph::simplify_graph` meets its contract.
use native.Mathlib.Omega.{arith}
use Rattle.simplify_graph.proofs.SimplifyLaws.{simplifies}
use borrow.Author.Rules.{rules}
use Rattle.simplify_graph.proofs.simplify_graph.Goals as goal

pub returns : goal.returns
returns c =
    simplifies
    (λ i. omega (arith, c.type_inv.rec i))
    c.answer-r.ensures
    c.simplify_answer.ensures
