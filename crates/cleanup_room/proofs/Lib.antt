pub mod ReadLean
pub mod CleanLean
pub mod CleanInput
