pub mod BothForms
