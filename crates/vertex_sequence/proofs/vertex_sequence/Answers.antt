-- `vertex_sequence::vertex_sequence` meets its contract.
use mathlib.Core.Path.{refl, sym, ◌∙◌}
use Rattle.refusal.proofs.RefusalLaws.{some-number, refused-number, made-number}
use Rattle.vertex_sequence.proofs.VertexLaws.{handed-none, handed-part, known}
use Rattle.vertex_sequence.proofs.vertex_sequence.Goals as goal

pub returns-in-Err : goal.returns-in-Err
returns-in-Err c =
    handed-none _ _
    (c.number.ensures ∙ sym (refused-number c.in-Err.is) ∙ c.check_vertex.ensures)
    (λ z. some-number _ (sym c.number.ensures ∙ z))

pub sequence_part-requires : goal.sequence_part-requires
sequence_part-requires c = known _ _ (sym (made-number c.in_default.is) ∙ c.check_vertex.ensures) refl

pub returns : goal.returns
returns c =
    handed-part _ _ (sym (made-number c.in_default.is) ∙ c.check_vertex.ensures) refl c.sequence_part.ensures
