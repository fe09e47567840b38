pub mod KmerLaws
