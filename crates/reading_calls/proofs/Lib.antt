pub mod LengthLaws
pub mod BytesLaws
pub mod ReadingLaws
