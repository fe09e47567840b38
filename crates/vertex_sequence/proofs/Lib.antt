pub mod VertexLaws
