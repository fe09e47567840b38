-- `record::any_bad_edge` meets its contract.
use Prim.Native.Nat.{◌-◌, ◌≤◌}
use mathlib.Core.Path.{◌≡◌, sym, ap, ◌∙◌}
use Rattle.defs.specs.Lists.{any_of, up_from}
use Rattle.defs.specs.Refusals.{bad_edge}
use Rattle.record.proofs.Fields.{edge-inside}
use Rattle.record.proofs.Tests.{any-bad-is}
use Rattle.record.proofs.TurnLaws.{any-start, any-turn, any_found, any_none}
use native.Mathlib.Omega.{arith}
use borrow.Author.Rules.{rules}
use Rattle.record.proofs.any_bad_edge.Goals as goal

pub bad_edge-requires : goal.bad_edge-requires
bad_edge-requires c =
    edge-inside
    c.requires
    c.edge_count-e.ensures.0
    c.edge_count-e.ensures.1
    c.loop-i.i
    c.loop-i-test.true

pub returns-then-bad_edge : goal.returns-then-bad_edge
returns-then-bad_edge c =
    sym
    (any_found (bad_edge c.args.rec.now) c.loop-i.i c.edge_count-e.result
    c.loop-i-test.true (sym c.bad_edge.ensures ∙ c.if-bad_edge.true))
    ∙ c.loop-i.invariant.1 ∙ ap (λ n. any_of (bad_edge c.args.rec.now) (up_from 0 n))
    c.edge_count-e.ensures.0
    ∙ sym (any-bad-is c.args.rec.now)

pub loop-i-preserved : goal.loop-i-preserved
loop-i-preserved c = (
  omega arith,
  sym (any-turn (bad_edge c.args.rec.now) c.loop-i.i c.edge_count-e.result
      c.loop-i-test.true (sym c.bad_edge.ensures ∙ c.if-bad_edge.false))
      ∙ c.loop-i.invariant.1,
)

pub returns : goal.returns
returns c =
    sym
    (any_none (bad_edge c.args.rec.now) c.loop-i.i c.edge_count-e.result
    c.loop-i-test.false) ∙ c.loop-i.invariant.1
    ∙ ap (λ n. any_of (bad_edge c.args.rec.now) (up_from 0 n)) c.edge_count-e.ensures.0
    ∙ sym (any-bad-is c.args.rec.now)
