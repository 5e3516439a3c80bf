pub mod Cuts
pub mod Laws
pub mod Told
pub mod Plain
pub mod Within
