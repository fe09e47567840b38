pub mod CleanUpLaws
