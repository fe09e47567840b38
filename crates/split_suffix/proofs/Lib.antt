pub mod EdgeLoops
pub mod VertexLoops
pub mod ListForms
pub mod SplitLaws
