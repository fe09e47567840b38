pub mod Reread
pub mod GraphCauses
pub mod Recordable
