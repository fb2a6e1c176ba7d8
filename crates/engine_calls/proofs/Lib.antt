pub mod Finding
pub mod Writing
pub mod Refused
