pub mod Checks
pub mod Handed
