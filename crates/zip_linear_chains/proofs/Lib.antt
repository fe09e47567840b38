pub mod LoopLaws
pub mod AbsorbLaws
pub mod AllAbsorbedLaws
pub mod ZippedLaws
