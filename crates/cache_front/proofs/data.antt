pub mod Calls
pub mod Live
pub mod Drains
