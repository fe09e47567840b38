pub mod SignLaws
pub mod StoredLaws
