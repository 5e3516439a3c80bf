mod Examples
pub mod Filled
pub mod Pieces
