pub mod Numbers
pub mod CountedLaws
