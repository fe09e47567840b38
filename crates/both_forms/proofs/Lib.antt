pub mod Responses
pub mod Judged
pub mod Converted
pub mod Theorem
