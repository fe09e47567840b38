pub mod DummyLaws
