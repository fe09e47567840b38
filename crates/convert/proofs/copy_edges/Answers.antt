-- `convert::copy_edges` meets its contract.
use Rattle.convert.proofs.CopyLaws.{copying-start, copying-more, copying-end}
use native.Mathlib.Omega.{arith}
use Rattle.convert.proofs.copy_edges.Goals as goal

pub loop-i-init : goal.loop-i-init
loop-i-init c = copying-start

pub edge_from-a-requires : goal.edge_from-a-requires
edge_from-a-requires c = omega (arith, c.requires.numbers.below _ c.loop-i-test.true, c.requires.es-room)

pub edge_to-b-requires : goal.edge_to-b-requires
edge_to-b-requires c = omega (arith, c.requires.numbers.below _ c.loop-i-test.true, c.requires.es-room)

pub edge_support-s-requires : goal.edge_support-s-requires
edge_support-s-requires c = omega (arith, c.requires.numbers.below _ c.loop-i-test.true, c.requires.es-room)

pub edge_flag-r-requires : goal.edge_flag-r-requires
edge_flag-r-requires c = omega (arith, c.requires.numbers.below _ c.loop-i-test.true, c.requires.es-room)

pub loop-i-preserved : goal.loop-i-preserved
loop-i-preserved c =
    copying-more
    c.loop-i.invariant
    c.requires.out-room
    c.loop-i-test.true
    c.edge_from-a.ensures
    c.edge_to-b.ensures
    c.edge_support-s.ensures
    c.edge_flag-r.ensures
    c.put_edge.ensures

pub returns : goal.returns
returns c = copying-end c.loop-i.invariant (omega arith)
