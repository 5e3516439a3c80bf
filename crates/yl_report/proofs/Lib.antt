pub mod Addressed
pub mod Ends
pub mod Filtered
pub mod HasLine
pub mod Heard
pub mod Inserted
pub mod LastSwitch
pub mod Noted
pub mod Order
pub mod Places
mod Examples
pub mod Unique
pub mod With
