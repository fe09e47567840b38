pub mod CleansPaths
