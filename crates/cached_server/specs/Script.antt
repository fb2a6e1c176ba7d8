pub mod Called
pub mod Faults
pub mod Gathering
pub mod Notes
pub mod Scripts
