pub mod EdgeLaws
pub mod VertexLaws
