pub mod TextLaws
pub mod SignLaws
pub mod Table
