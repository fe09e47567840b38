pub mod MarkLaws
pub mod SplitLaws
