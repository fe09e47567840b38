pub mod SimplifyLaws
