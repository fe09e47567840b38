pub mod CycleLaws
pub mod QueueLaws
pub mod PeelLaws
