pub mod Retyped
pub mod Rows
