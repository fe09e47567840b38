pub mod TestLaws
pub mod WriteLaws
pub mod EdgeLoops
pub mod MergeLaws
pub mod TryLaws
