-- `index::build_index` meets its contract.
use native.Mathlib.Omega.{arith}
use mathlib.Core.Path.{refl}
use Prim.Native.Nat.{◌-◌}
use lib.ListN.{length-set}
use Rattle.index.proofs.IndexLaws.{Building, building-start, indexable-kept, building-more, building-end}
use Rattle.index.proofs.build_index.Goals as goal

pub loop-e-preserved : goal.loop-e-preserved
loop-e-preserved c =
    building-more
    (indexable-kept c.requires c.fill.auto.dst)
    (c.loop-e.e - 1) _ _
    c.loop-e.invariant
    (omega arith)
    (omega (arith, c.edge_from.ensures))
    (omega (arith, c.edge_to.ensures))

pub returns : goal.returns
returns c =
    building-end (indexable-kept c.requires c.fill.auto.dst) c.loop-e.invariant c.loop-e-test.false
