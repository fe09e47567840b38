pub mod WriteLaws
pub mod WrittenLaws
pub mod MoveLaws
pub mod JoinLaws
