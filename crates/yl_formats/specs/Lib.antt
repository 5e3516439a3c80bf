pub mod Formats
pub mod Listings
pub use Rattle.yl_report.specs.Report
pub use Rattle.yl_rules.specs.Levels
pub use Rattle.yl_text.specs.Finding
pub use Rattle.yl_text.specs.Watched
pub use Rattle.yl_devices.specs.Written
