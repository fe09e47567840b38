pub mod Pairs
pub mod Accepted
pub mod Measured
