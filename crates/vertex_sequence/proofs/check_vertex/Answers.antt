-- `vertex_sequence::check_vertex` meets its contract.
use mathlib.Core.Path.{sym, ◌∙◌}
use native.Mathlib.Omega.{arith}
use Rattle.std.proofs.lemmas.Result.{err_from_is_err_and}
use Rattle.refusal.proofs.RefusalLaws.{some-number, refused-number, made-number}
use Rattle.vertex_sequence.proofs.VertexLaws.{vertex-refused, record-headed, vertex-9, vertex-0}
use Rattle.vertex_sequence.proofs.check_vertex.Goals as goal

pub returns-in_err-check_record : goal.returns-in_err-check_record
returns-in_err-check_record c =
    let p = err_from_is_err_and c.from_residual.result c.from_residual.ensures.1 in
    rw (p.1, p.2) (vertex-refused _ _ (sym (refused-number c.in_err-check_record.was) ∙ c.check_record.ensures) (some-number _))

pub vertex_count-requires : goal.vertex_count-requires
vertex_count-requires c =
    record-headed _ c.args.v (sym c.check_record.ensures ∙ made-number c.in_ok-check_record.was) c.form_of.ensures

pub returns-then-vertex_count-v : goal.returns-then-vertex_count-v
returns-then-vertex_count-v c =
    vertex-9 _ _
    (sym c.check_record.ensures ∙ made-number c.in_ok-check_record.was)
    (omega (arith, c.vertex_count.ensures.0, c.if-vertex_count-v.true))

pub returns : goal.returns
returns c =
    vertex-0 _ _
    (sym c.check_record.ensures ∙ made-number c.in_ok-check_record.was)
    (omega (arith, c.vertex_count.ensures.0, c.if-vertex_count-v.false))
