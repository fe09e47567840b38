pub mod Peel
