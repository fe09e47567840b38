pub mod Kept
pub mod Supports
pub mod Answers
