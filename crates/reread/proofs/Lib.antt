pub mod Fields
pub mod Told
pub mod Checks
pub mod Written
pub mod Graphs
pub mod Read
pub mod Answers
