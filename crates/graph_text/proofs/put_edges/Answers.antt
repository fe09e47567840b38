-- `graph_text::put_edges` meets its contract.
use native.Mathlib.Omega.{arith}
use Rattle.text.proofs.TextLaws.{lines_start, lines_more, lines_end, lines_long, lines_at}
use Rattle.graph_text.proofs.put_edges.Goals as goal

pub loop-i-init : goal.loop-i-init
loop-i-init c = lines_start

pub put_edge-to-requires : goal.put_edge-to-requires
put_edge-to-requires c = (
  omega (
    arith,
    c.requires.room,
    lines_at c.loop-i.invariant,
    lines_long c.loop-i.invariant,
    c.loop-i-test.true,
  ),
  omega (arith, c.requires.es-room, c.loop-i-test.true),
)

pub loop-i-preserved : goal.loop-i-preserved
loop-i-preserved c =
    lines_more c.loop-i.invariant c.loop-i-test.true c.put_edge-to.ensures (omega arith)

pub returns : goal.returns
returns c = lines_end c.loop-i.invariant (omega arith)
