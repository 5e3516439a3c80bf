pub mod Bodies
pub mod Events
pub mod Folders
pub mod Laws
pub mod Machine
pub mod Messages
pub mod Named
pub mod Replies
pub mod Requests
pub mod Serving
pub mod Settings
pub mod SoFar
pub mod Steps
pub mod Turns
pub mod Written
pub use Rattle.yl_workspace.specs.Computed
pub use Rattle.yl_workspace.specs.report_laws as report_laws
