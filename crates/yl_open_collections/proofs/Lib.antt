mod Examples
pub mod Counted
pub mod Turns
pub mod Goals
pub mod Told
pub mod OpenBy
