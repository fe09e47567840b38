pub mod Pushed
pub mod Ends
pub mod Split
