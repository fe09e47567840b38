pub mod StepLaws
pub mod Directions
pub mod ReachLaws
