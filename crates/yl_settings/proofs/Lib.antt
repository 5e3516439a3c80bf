pub mod AtNone
pub mod Walk
pub mod Digits
pub mod Truthy
