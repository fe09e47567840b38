pub mod CommonLaws
pub mod PartLaws
pub mod SharedLoops
