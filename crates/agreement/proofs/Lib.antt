pub mod Counting
pub mod Filling
pub mod Majorities
pub mod Agreements
pub mod Polls
pub mod Settling
