-- what a cache is, and when calls come
pub use Rattle.front_reference.specs.Fronts
-- what calls do
pub use Rattle.front_parts.specs.Places.Calls
pub use Rattle.front_parts.specs.Places.Making
pub use Rattle.front_parts.specs.Places.Turning
pub use Rattle.front_state.specs.Accessing
pub use Rattle.front_state.specs.Beginning
pub use Rattle.front_state.specs.Covering
pub use Rattle.front_state.specs.Reading
pub mod Building
pub mod Sharding
