pub mod BytesOrder
pub mod EqualLaws
