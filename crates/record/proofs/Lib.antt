pub mod TurnLaws
pub mod Tests
pub mod Fields
pub mod Inside
pub mod Accepted
pub mod Sequences
