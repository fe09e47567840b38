pub mod Loops
pub mod Absorb
pub mod Zips
