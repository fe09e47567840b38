pub mod Simplifies
