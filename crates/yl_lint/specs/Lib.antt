pub mod Laws
pub mod Left
pub mod TextReport
pub mod Computed
pub mod Unsilenced
pub mod Onward
