pub mod Edit
pub mod Overview
pub mod Survey
