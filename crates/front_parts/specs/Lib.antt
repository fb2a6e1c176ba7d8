pub mod Iterator
pub mod Access
pub mod Wholes
pub mod Places
pub mod Looking
pub use Rattle.moka_engine.specs.Named
pub use Rattle.moka_engine.specs.Showing
