pub mod Folding
pub mod OneAnswer
pub mod Saying
mod Examples
pub mod Cutting
pub mod Ends
pub mod OneBuilding
