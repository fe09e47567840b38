pub mod LoopLaws
pub mod CompactLaws
