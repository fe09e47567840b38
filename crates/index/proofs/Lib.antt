pub mod AdjLaws
pub mod IndexLaws
