pub mod Kind
pub mod Answers
pub mod SharedMut
pub mod SharedNumberSharedMut
