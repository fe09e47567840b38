pub mod SpellLaws
