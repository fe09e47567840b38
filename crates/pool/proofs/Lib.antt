pub mod PoolLaws
pub mod CompareLaws
