pub mod Fault
pub mod Text
pub mod Written
pub use Rattle.yl_text.specs.Watched
