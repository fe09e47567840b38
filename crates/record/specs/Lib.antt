pub mod Headed
pub mod Kinds
pub mod Layout
