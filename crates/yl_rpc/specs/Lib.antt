pub mod Answers
pub mod Bodies
pub mod Calls
pub mod Depth
pub mod Surrogates
pub mod Views
pub use Rattle.json.specs.Json
pub use Rattle.json.specs.Value
