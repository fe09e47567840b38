pub mod OnceLaws
pub mod RoundLaws
pub mod FullLaws
