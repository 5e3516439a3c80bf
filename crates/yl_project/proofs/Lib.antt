pub mod Adding
pub mod Folding
pub mod Front
pub mod Parts
pub mod Saying
