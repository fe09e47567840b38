pub mod Tabs
pub mod ListTabs
pub mod SumTabs
pub mod Ranks
