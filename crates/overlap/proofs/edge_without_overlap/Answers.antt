-- `overlap::edge_without_overlap` meets its contract.
use mathlib.Core.Path.{sym, ap, ◌∙◌}
use mathlib.Core.Bool.{not}
use native.Mathlib.Omega.{arith}
use Rattle.record.proofs.TurnLaws.{any-start, any-turn, any_found, any_none}
use Rattle.record.proofs.Fields.{bytes-at-read}
use Rattle.record.proofs.Sequences.{formed-headed}
use Rattle.overlap.proofs.OverlapLaws.{apart, apart-found}
use Rattle.overlap.proofs.edge_without_overlap.Goals as goal

pub edge_count-e-requires : goal.edge_count-e-requires
edge_count-e-requires c = formed-headed c.requires.formed c.form_of-form.ensures

pub vertex_count-requires : goal.vertex_count-requires
vertex_count-requires c = formed-headed c.requires.formed c.form_of-form.ensures

pub bytes_at-at-requires : goal.bytes_at-at-requires
bytes_at-at-requires c = (omega (arith, c.vertex_count.ensures.1), omega (arith, c.edge_count-e.ensures.1))

pub loop-i-init : goal.loop-i-init
loop-i-init c = any-start (apart c.args.rec.now) c.edge_count-e.result

pub edge_overlaps-requires : goal.edge_overlaps-requires
edge_overlaps-requires c = (
  c.requires,
  (
    c.form_of-form.ensures,
    (
      bytes-at-read _ _ c.form_of-form.ensures c.bytes_at-at.ensures c.vertex_count.ensures.0 c.edge_count-e.ensures.0,
      omega arith,
    ),
  ),
)

pub returns-then-not-edge_overlaps : goal.returns-then-not-edge_overlaps
returns-then-not-edge_overlaps c =
    apart-found c.requires c.edge_count-e.result c.loop-i.i c.edge_count-e.ensures.0 c.loop-i.invariant
    (any_found (apart c.args.rec.now) c.loop-i.i c.edge_count-e.result c.loop-i-test.true
    (ap not (sym c.edge_overlaps.ensures) ∙ ap not c.if-not-edge_overlaps.true))

pub loop-i-preserved : goal.loop-i-preserved
loop-i-preserved c =
    sym (any-turn (apart c.args.rec.now) c.loop-i.i c.edge_count-e.result c.loop-i-test.true
    (ap not (sym c.edge_overlaps.ensures) ∙ ap not c.if-not-edge_overlaps.false))
    ∙ c.loop-i.invariant

pub returns : goal.returns
returns c =
    apart-found c.requires c.edge_count-e.result c.loop-i.i c.edge_count-e.ensures.0 c.loop-i.invariant
    (any_none (apart c.args.rec.now) c.loop-i.i c.edge_count-e.result (omega arith))
