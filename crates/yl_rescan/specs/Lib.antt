pub mod Agree
pub mod Held
pub mod Made
pub mod Rescan
