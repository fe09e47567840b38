pub mod Closing
pub mod Traces
pub mod Apart
pub mod Chains
pub mod OnePass
pub mod Zipped
pub mod Examples
pub mod ChainsBelow
