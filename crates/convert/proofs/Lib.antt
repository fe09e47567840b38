pub mod TrimLaws
pub mod SortLaws
pub mod PlaceLaws
pub mod CopyLaws
