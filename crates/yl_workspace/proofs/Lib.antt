mod Ignored
pub mod Lists
pub mod Opening
pub mod Texts
pub use Rattle.yl_lint.proofs.Reported
