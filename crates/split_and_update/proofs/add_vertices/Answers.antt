-- `split_and_update::add_vertices` meets its contract.
use Rattle.split_and_update.proofs.VertLaws.{first_part, from_is, last-part, ask₁, part₁, ask₂, part₂, rests, verts-added}
use Rattle.split_and_update.proofs.add_vertices.Goals as goal

pub push_part-suffix-requires : goal.push_part-suffix-requires
push_part-suffix-requires c =
    ask₁
    c.requires
    c.vertex_start-start.ensures
    (first_part c.requires c.vertex_start-start.ensures)

pub push_part-middles-requires : goal.push_part-middles-requires
push_part-middles-requires c =
    ask₂
    c.requires
    (part₁ c.requires c.vertex_start-start.ensures c.push_part-suffix.ensures)
    (from_is c.requires c.vertex_start-start.ensures c.vertex_len.ensures)
    (last-part c.requires c.vertex_start-start.ensures c.vertex_len.ensures)

pub push_rests-all-requires : goal.push_rests-all-requires
push_rests-all-requires c =
    rests
    c.requires
    (part₁ c.requires c.vertex_start-start.ensures c.push_part-suffix.ensures)
    (part₂ c.requires (part₁ c.requires c.vertex_start-start.ensures c.push_part-suffix.ensures)
    c.vertex_start-start.ensures c.vertex_len.ensures c.push_part-middles.ensures)

pub returns : goal.returns
returns c =
    verts-added
    c.requires
    (part₁ c.requires c.vertex_start-start.ensures c.push_part-suffix.ensures)
    (part₂ c.requires (part₁ c.requires c.vertex_start-start.ensures c.push_part-suffix.ensures)
    c.vertex_start-start.ensures c.vertex_len.ensures c.push_part-middles.ensures)
    c.push_rests-all.ensures
