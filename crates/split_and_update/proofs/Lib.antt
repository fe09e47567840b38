pub mod PushLaws
pub mod NodeLaws
pub mod LoopLaws
pub mod AddLaws
pub mod EdgeLaws
pub mod VertLaws
pub mod PlanLaws
pub mod SplitLaws
