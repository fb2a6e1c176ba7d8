pub mod Finding
pub mod Bounds
pub mod Named
pub mod Refusing
pub mod Removing
pub mod Sending
