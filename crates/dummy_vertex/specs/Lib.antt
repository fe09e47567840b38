pub mod Dummy
