-- `record::bad_edge` meets its contract.
use native.Mathlib.Omega.{arith}
use mathlib.Core.Path.{◌∙◌, ap, sym}
use lib.Dec.{ltb}
use Rattle.record.proofs.Tests.{from_past, to-past, ends-below}
use borrow.Author.Rules.{rules}
use Rattle.record.proofs.bad_edge.Goals as goal

pub returns-then-v-edge_from_at : goal.returns-then-v-edge_from_at
returns-then-v-edge_from_at c =
    from_past
    c.args.rec.now
    c.args.i
    (omega (arith, c.vertex_count-v.ensures.0, c.edge_from_at.ensures))

pub returns-then-v-edge_to_at : goal.returns-then-v-edge_to_at
returns-then-v-edge_to_at c =
    to-past
    c.args.rec.now
    c.args.i
    (omega (arith, c.vertex_count-v.ensures.0, c.edge_from_at.ensures))
    (omega (arith, c.vertex_count-v.ensures.0, c.edge_to_at.ensures))

pub returns : goal.returns
returns c =
    ap (λ n. ltb 3 n) c.edge_flag_at.ensures
    ∙ ends-below c.args.rec.now c.args.i
    (omega (arith, c.vertex_count-v.ensures.0, c.edge_from_at.ensures))
    (omega (arith, c.vertex_count-v.ensures.0, c.edge_to_at.ensures))
