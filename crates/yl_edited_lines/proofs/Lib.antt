pub mod ByEnds
pub mod FewLines
pub mod Pushed
pub mod ReadAlike
pub mod Windows
pub mod Silenced
pub mod Spoken
