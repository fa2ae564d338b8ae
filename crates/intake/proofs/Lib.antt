pub mod LineLaws
pub mod TallyLaws
pub mod InputLaws
