pub mod Listed
pub mod Numbers
pub mod Plain
pub mod Printed
pub mod Reported
pub mod Spans
pub mod Written
