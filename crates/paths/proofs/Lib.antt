pub mod StepLaws
pub mod RouteLaws
pub mod NodeLaws
pub mod BytesLaws
