pub mod RewritingLaws
