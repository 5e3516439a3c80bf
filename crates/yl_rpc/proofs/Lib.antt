pub mod Deep
pub mod Digits
pub mod Mended
pub mod Texts
