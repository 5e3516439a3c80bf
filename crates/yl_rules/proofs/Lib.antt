pub mod CommentLemmas
pub mod Encoded
pub mod OneWord
pub mod Steps
pub mod Texts
mod Examples
