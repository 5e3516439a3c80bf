pub mod Bounds
pub mod Leaving
pub mod Numbers
pub mod Plain
pub mod Rows
pub mod Told
