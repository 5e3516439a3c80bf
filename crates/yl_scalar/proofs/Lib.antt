pub mod BlockRead
pub mod Encodes
mod Examples
pub mod Front
pub mod PlainRead
pub mod QuotedByRows
pub mod QuotedGlyphs
pub mod QuotedRead
pub mod Simple
pub mod Trim
pub mod Printable
