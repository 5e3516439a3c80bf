pub mod Keys
pub mod Marks
pub mod ByLine
pub mod Facts
pub mod FactsByLine
pub mod SingleKeys
pub mod Unmarked
pub mod MarksAlike
