pub mod Faultless
pub mod Found
pub mod Law
pub mod Gathered
pub mod Plain
pub mod ShownUpto
