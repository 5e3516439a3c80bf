pub mod Begun
pub mod Cut
pub mod Driven
