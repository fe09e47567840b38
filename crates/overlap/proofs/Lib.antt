pub mod OverlapLaws
pub mod Runs
pub mod Example
