pub mod Codes
pub mod Doings
pub mod Model
