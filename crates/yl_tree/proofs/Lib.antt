pub mod AtEach
pub mod CodePoints
mod Examples
pub mod Finders
pub mod Frames
pub mod Keys
pub mod Kept
pub mod KeyTold
pub mod Names
pub mod NameStack
pub mod OpenKeys
pub mod Own
pub mod References
pub mod Skipped
pub mod Unused
