pub mod Changes
pub mod Documents
pub mod Shown
pub use Rattle.yl_lint.specs.Computed
pub use Rattle.yl_lint.specs.TextReport
pub use Rattle.yl_session.specs.State
pub use Rattle.yl_lint.specs.Laws as report_laws
