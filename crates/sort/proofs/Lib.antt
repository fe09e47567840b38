pub mod PermutationLaws
pub mod MergeLaws
pub mod RunLaws
