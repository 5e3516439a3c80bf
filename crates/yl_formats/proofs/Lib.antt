mod Examples
pub mod Listed
pub mod Pieces
pub mod Widths
