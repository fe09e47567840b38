-- `vertex_sequence::vertex_sequence_place` meets its contract.
use mathlib.Core.Path.{refl, sym, ◌∙◌}
use native.Mathlib.Omega.{arith}
use Rattle.refusal.proofs.RefusalLaws.{some-number, refused-number, made-number}
use Rattle.vertex_sequence.proofs.VertexLaws.{placed-none, known, placed-inside, placed-small, placed-part}
use Rattle.vertex_sequence.proofs.vertex_sequence_place.Goals as goal

pub returns-in-Err : goal.returns-in-Err
returns-in-Err c =
    placed-none _ _
    (c.number.ensures ∙ sym (refused-number c.in-Err.is) ∙ c.check_vertex.ensures)
    (λ z. some-number _ (sym c.number.ensures ∙ z))

pub sequence_start-at-requires : goal.sequence_start-at-requires
sequence_start-at-requires c = known _ _ (sym (made-number c.in_default.is) ∙ c.check_vertex.ensures) refl

pub length_at-len-requires : goal.length_at-len-requires
length_at-len-requires c =
    placed-inside _ _ (sym (made-number c.in_default.is) ∙ c.check_vertex.ensures) refl c.form_of.ensures

pub overflow_cast-result : goal.overflow_cast-result
overflow_cast-result c =
    omega (
      arith,
      placed-small _ _ (sym (made-number c.in_default.is) ∙ c.check_vertex.ensures) refl,
      c.sequence_start-at.ensures,
    )

pub returns : goal.returns
returns c =
    placed-part _ _
    (sym (made-number c.in_default.is) ∙ c.check_vertex.ensures)
    refl
    c.sequence_start-at.ensures
    c.length_at-len.ensures.0
