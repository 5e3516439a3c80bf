pub mod Fault
pub mod Source
pub use Rattle.yl_config.specs.Faults
pub use Rattle.yl_devices.specs.Fault as device_fault
pub use Rattle.yl_devices.specs.Text
pub use Rattle.yl_devices.specs.Written
pub use Rattle.yl_text.specs.Watched
