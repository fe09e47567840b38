pub mod CleansLaws
