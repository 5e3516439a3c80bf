pub mod Cut
pub mod Patching
pub mod Seen
pub mod Speaking
