-- why calls are refused
pub use Rattle.sync_desk.specs.Slots.Refusals
-- why a builder is refused
pub use Rattle.moka.specs.Building
pub mod Turning
pub mod Accessing
pub mod Holding
pub mod Making
pub mod Telling
pub mod Covering
pub mod Showing
pub mod Selecting
pub mod Spreading
pub mod Sizing
