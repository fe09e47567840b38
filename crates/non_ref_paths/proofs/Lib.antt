pub mod EdgeKeeping
pub mod CleanNonRefLaws
