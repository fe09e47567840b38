pub mod PathsLaws
