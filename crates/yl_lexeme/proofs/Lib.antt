mod Examples
pub mod Looks
pub mod Opened
pub mod Units
