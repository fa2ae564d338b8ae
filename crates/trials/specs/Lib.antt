pub mod Callers
pub mod Keys
pub mod Undoing
