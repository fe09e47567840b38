-- `store::add_or_update_edge` meets its contract.
use native.Mathlib.Omega.{arith}
use mathlib.Core.Path.{ap, ◌∙◌}
use borrow.Author.Rules.{rules}
use Rattle.defs.specs.SeqGraph.{joined_data}
use Rattle.edge_data.specs.EdgeData.{carried_data}
use Rattle.edge_data.specs.declared.Carried.{Carried}
use Rattle.store.proofs.EdgeLaws.{packed-hit, packed-miss}
use Rattle.store.proofs.add_or_update_edge.Goals as goal

pub returns-then-at-m : goal.returns-then-at-m
returns-then-at-m c = (
  omega arith,
  packed-hit _ _ _ _ _ d _ c.requires.room c.requires.is _ _ c.joined-j.result (omega arith)
      c.edge_from.ensures c.edge_to.ensures
      (c.joined-j.ensures ∙ ap (λ (x : Carried). joined_data (carried_data x) (carried_data d)) c.carried.ensures)
      c.put_edge.ensures,
)
  where
    d : Carried
    d = c.args.d

pub returns : goal.returns
returns c = (
  omega arith,
  packed-miss _ _ _ _ _ c.args.d _ c.requires.room c.requires.is (omega arith) c.put_edge-2.ensures,
)
