pub mod Diamond
