pub mod Places
pub mod Documents
