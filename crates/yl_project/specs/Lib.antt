pub mod Texts
pub mod Misfits
pub mod Said
pub mod Named
pub mod Outcome
pub mod Answered
pub mod Answers
pub mod Paths
