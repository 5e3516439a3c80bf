pub mod PieceLists
pub mod Around
pub mod Edited
pub mod Anew
