pub mod CleanNonRef
