pub mod DoubledLaws
