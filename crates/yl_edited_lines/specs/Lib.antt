pub mod Edit
pub mod Alike
pub mod There
pub mod Switches
