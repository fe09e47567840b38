-- `graph_text::put_vertices` meets its contract.
use native.Mathlib.Omega.{arith}
use Rattle.pool.proofs.PoolLaws.{bytes_in-more}
use Rattle.text.proofs.TextLaws.{lines_start, lines_more, lines_end}
use Rattle.graph_text.proofs.GraphLaws.{vertices-fit}
use Rattle.graph_text.proofs.put_vertices.Goals as goal

pub loop-v-init : goal.loop-v-init
loop-v-init c = lines_start

pub put_vertex-to-requires : goal.put_vertex-to-requires
put_vertex-to-requires c =
    vertices-fit c.requires c.loop-v.invariant c.loop-v-test.true

pub loop-v-preserved : goal.loop-v-preserved
loop-v-preserved c =
    lines_more
    c.loop-v.invariant
    c.loop-v-test.true
    c.put_vertex-to.ensures
    (omega (arith, bytes_in-more c.loop-v.v c.args.vs.now))

pub returns : goal.returns
returns c = lines_end c.loop-v.invariant (omega arith)
