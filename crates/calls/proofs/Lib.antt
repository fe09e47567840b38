pub mod ResponseLaws
pub mod AnswerLaws
pub mod SendLaws
pub mod CauseLaws
pub mod CallerLaws
