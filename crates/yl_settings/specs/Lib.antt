pub mod Nodes
pub mod Item
pub mod Words
pub mod Values
pub mod Options
pub mod Standard
