pub mod ConvertsLaws
