pub mod Inputs
pub mod Tallies
