pub mod GrownLaws
pub mod FollowLaws
pub mod MergeLaws
