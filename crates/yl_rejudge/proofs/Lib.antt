pub mod SectionsEdited
pub mod Bound
pub mod Anew
pub mod Outcome
pub mod Same
