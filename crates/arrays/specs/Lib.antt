pub mod Classes
pub mod Sized
