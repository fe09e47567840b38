pub mod EdgeData
