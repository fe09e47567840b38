pub mod Until
