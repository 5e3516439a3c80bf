pub mod Agree
pub mod Beginnings
pub mod Carry
pub mod Columns
pub mod DocumentEnds
pub mod Modes
pub mod Placed
pub mod RowSteps
pub mod Signs
pub mod Tabs
pub mod Took
pub mod Wholes
mod Examples
