pub mod GraphText
