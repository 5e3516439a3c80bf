pub mod Counted
pub mod OpenBy
