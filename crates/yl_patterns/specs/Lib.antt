pub mod Answers
pub mod Fits
pub mod Patterns
pub mod Reading
pub mod Tables
