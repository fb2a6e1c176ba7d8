pub mod Slots
pub mod Coalescing
pub mod Drawing
pub mod Sharding
pub mod Writing
