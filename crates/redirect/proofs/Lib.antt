pub mod RaiseLaws
pub mod RedirectLaws
pub mod SameLaws
