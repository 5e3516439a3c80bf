pub mod Bodies
pub mod Escaped
pub mod Headers
pub mod Outcomes
pub mod Parts
