pub mod Beside
pub mod Parts
pub mod Recorded
pub mod Recorder
pub mod Records
