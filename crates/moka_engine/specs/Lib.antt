pub mod Keeping
pub use Rattle.engine_calls.specs.Named
pub mod Showing
