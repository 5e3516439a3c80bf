pub mod Difference
pub mod Rest
