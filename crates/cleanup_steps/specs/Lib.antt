pub mod CleanUp
