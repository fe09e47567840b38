-- `from_assembly_graph::from_assembly_graph` meets its contract.
use native.Mathlib.Omega.{arith}
use Rattle.from_assembly_graph.proofs.ConvertsLaws.{converts-refused, converts-sent}
use Rattle.from_assembly_graph.proofs.from_assembly_graph.Goals as goal

pub returns-then-caller-gt-LAST_CALLER : goal.returns-then-caller-gt-LAST_CALLER
returns-then-caller-gt-LAST_CALLER c =
    converts-refused _ (λ i. omega (arith, c.type_inv.rec i)) c.if-caller-gt-LAST_CALLER.true c.from.ensures

pub returns : goal.returns
returns c =
    converts-sent _ (λ i. omega (arith, c.type_inv.rec i)) c.if-caller-gt-LAST_CALLER.false c.convert.ensures
