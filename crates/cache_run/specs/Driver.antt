pub mod Causes
pub mod Driven
pub mod Drives
pub mod Exchanges
pub mod Hosting
pub mod Interludes
