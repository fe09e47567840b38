pub mod LeanLaws
pub mod ChoiceLaws
