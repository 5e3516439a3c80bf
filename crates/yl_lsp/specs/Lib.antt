pub mod Diagnostics
pub mod Messages
pub mod Params
pub mod Read
pub mod Reports
pub mod Shown
pub mod Texts
pub mod Words
